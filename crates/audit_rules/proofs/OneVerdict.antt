-- A record and a text have one verdict.
use Rattle.std.proofs.Common.{◌≡◌, ◌≢◌, ◌⊎◌, ◌≤◌, ◌<◌, ◌+◌, ◌-◌, ◌++◌, ℕ, zero, suc, Bool, true, false, List, [], ◌∷◌, length, Some, None, inl, inr, refl, sym, ◌∙◌, ap, subst}
use Rattle.std.proofs.Common.{append_assoc, arith}
use Rattle.std.specs.Prelude.{◌==◌, if◌then◌else◌}
use Rattle.std.proofs.lemmas.Bool.{cases_order}
use Rattle.site_types.specs.declared.site.Site.{Site}
use Rattle.site_types.specs.Valid.{IsValid}
use Rattle.record_lines.specs.declared.over.Over.{Over}
use Rattle.record_lines.specs.declared.over.Over.TheVariants.{Ended, Refused}
use Rattle.record_lines.specs.declared.refusal.Refusal.{Refusal}
use Rattle.record_lines.specs.Lines.{reading_of}
use Rattle.face_text.specs.declared.timeline.Timeline.{Timeline}
use Rattle.face_reading.specs.Reading.{IsBadLine, IsRead, MayGoOn, first_lines, line_ends}
use Rattle.face_text.specs.Timelines.{IsInForm, text_of}
use Rattle.face_reading.proofs.SameTexts.{texts_are_their_own}
use Rattle.panel_rules.specs.Moments.{TickBlock}
use Rattle.audit_rules.specs.declared.verdict.Verdict.{Verdict}
use Rattle.audit_rules.specs.declared.verdict.Verdict.TheVariants.{Passed, Failed, Record, Text}
use Rattle.audit_rules.specs.declared.audit_rule.AuditRule.{AuditRule}
use Rattle.audit_rules.specs.Breaches.{Breach, IsBreach, IsFirstBreach}
use Rattle.audit_rules.specs.Verdicts.{IsJudged, is_unequal, is_failed, is_passed, IsVerdictOn, is_refused, is_cut_off, is_no_text, is_judged, ticks_in_record}
use Rattle.audit_rules.specs.Laws.{VerdictIsOne}
use Rattle.audit_rules.proofs.FirstOnes.{Same, same_breach}

-- ---- the first bad line

-- fewer lines are the front of more
pub record IsFrontOf (front whole : List ℕ) : Type 0 where
  pub rest : List ℕ
  pub is : whole ≡ front ++ rest

first_lines_front : (few more : ℕ) (text : List ℕ) → few ≤ more → IsFrontOf (first_lines few text) (first_lines more text)
first_lines_front zero more text l = record { rest = first_lines more text; is = refl }
first_lines_front (suc few) zero text l = absurd (omega (arith, l))
first_lines_front (suc few) (suc more) [] l = record { rest = []; is = refl }
first_lines_front (suc few) (suc more) (byte ∷ text) l =
    by (byte == 10) (first_lines_front few more text (omega (arith, l))) (first_lines_front (suc few) (suc more) text l)
  where
    by : (ends : Bool) → IsFrontOf (first_lines few text) (first_lines more text)
        → IsFrontOf (first_lines (suc few) text) (first_lines (suc more) text)
        → IsFrontOf (byte ∷ (if ends then first_lines few text else first_lines (suc few) text))
        (byte ∷ (if ends then first_lines more text else first_lines (suc more) text))
    by true ended going = record { rest = ended.rest; is = ap (λ t. byte ∷ t) ended.is }
    by false ended going = record { rest = going.rest; is = ap (λ t. byte ∷ t) going.is }

front_goes_on : (site : Site) (front whole : List ℕ) → IsFrontOf front whole → MayGoOn site whole → MayGoOn site front
front_goes_on site front whole f may =
    record {
      timeline = may.timeline;
      form = may.form;
      rest = f.rest ++ may.rest;
      text = may.text ∙ ap (λ t. t ++ may.rest) f.is ∙ append_assoc front f.rest may.rest;
    }

-- no bad line comes before another one
not_earlier : (site : Site) (text : List ℕ) (one other : ℕ) → IsBadLine site text one → IsBadLine site text other → one < other → ⊥
not_earlier site text one other a b l =
    elim a.bad [
      | inl past ↦ omega (arith, past, b.ended, l)
      | inr stops ↦
          stops (front_goes_on site (first_lines one text) (first_lines (other - 1) text)
          (first_lines_front one (other - 1) text (omega (arith, l))) b.before)
    ]

same_line : (site : Site) (text : List ℕ) (one other : ℕ) → IsBadLine site text one → IsBadLine site text other → one ≡ other
same_line site text one other a b = by (cases_order one other)
  where
    by : (one ≡ other) ⊎ ((one < other) ⊎ (other < one)) → one ≡ other
    by (inl e) = e
    by (inr (inl h)) = absurd (not_earlier site text one other a b h)
    by (inr (inr h)) = absurd (not_earlier site text other one b a h)

-- a text that is read has no bad line
not_read : (site : Site) (text : List ℕ) (line : ℕ) (timeline : Timeline) → IsBadLine site text line → IsRead site text timeline → ⊥
not_read site text line timeline bad read = bad.not_a_text timeline read.form read.text_is

-- ---- one judgement

module _ (site : Site) (ticks : List TickBlock) (timeline : Timeline) where
  failed_alike : (one other : Breach) → IsFirstBreach site ticks timeline one → IsFirstBreach site ticks timeline other
      → Failed one.tick one.rule one.panel one.number ≡ Failed other.tick other.rule other.panel other.number
  failed_alike one other a b =
      let same = same_breach one other (b.first one a.broken) (a.first other b.broken) in
      rw (same.tick, same.rule, same.panel, same.number) refl

  same_judged : (one other : Verdict) → IsJudged site ticks timeline one → IsJudged site ticks timeline other → one ≡ other
  same_judged one other (is_unequal p) (is_unequal q) = refl
  same_judged one other (is_unequal p) (is_failed q breach first) = absurd (p q)
  same_judged one other (is_unequal p) (is_passed q none) = absurd (p q)
  same_judged one other (is_failed p breach first) (is_unequal q) = absurd (q p)
  same_judged one other (is_failed p breach first) (is_failed q second also) = failed_alike breach second first also
  same_judged one other (is_failed p breach first) (is_passed q none) = absurd (none breach first.broken)
  same_judged one other (is_passed p none) (is_unequal q) = absurd (q p)
  same_judged one other (is_passed p none) (is_failed q breach first) = absurd (none breach first.broken)
  same_judged one other (is_passed p none) (is_passed q still) = refl

-- ---- one verdict

module _ (site : Site) (valid : IsValid site) (lines text : List ℕ) where
  judged_alike : (one other : Timeline) (this that : Verdict) → IsRead site text one → IsRead site text other
      → IsJudged site (ticks_in_record site lines) one this → IsJudged site (ticks_in_record site lines) other that → this ≡ that
  judged_alike one other this that a b p q =
      let same : one ≡ other = texts_are_their_own site valid one other a.form b.form (a.text_is ∙ sym b.text_is) in
      same_judged site (ticks_in_record site lines) other this that
      (subst (λ t. IsJudged site (ticks_in_record site lines) t this) same p) q

  same_verdict : (one other : Verdict) → IsVerdictOn site lines text one → IsVerdictOn site lines text other → one ≡ other
  same_verdict one other (is_refused r p) (is_refused s q) = ap Record (refusal_of r s (sym p ∙ q))
    where
      refusal_of : (r s : Refusal) → Some (Refused r) ≡ Some (Refused s) → r ≡ s
      refusal_of r s e = cc
  same_verdict one other (is_refused r p) (is_cut_off q) = absurd (let e = sym p ∙ q in cc)
  same_verdict one other (is_refused r p) (is_no_text q line bad) = absurd (let e = sym p ∙ q in cc)
  same_verdict one other (is_refused r p) (is_judged q timeline read verdict judged) = absurd (let e = sym p ∙ q in cc)
  same_verdict one other (is_cut_off p) (is_refused s q) = absurd (let e = sym p ∙ q in cc)
  same_verdict one other (is_cut_off p) (is_cut_off q) = refl
  same_verdict one other (is_cut_off p) (is_no_text q line bad) = absurd (let e = sym p ∙ q in cc)
  same_verdict one other (is_cut_off p) (is_judged q timeline read verdict judged) = absurd (let e = sym p ∙ q in cc)
  same_verdict one other (is_no_text p line bad) (is_refused s q) = absurd (let e = sym p ∙ q in cc)
  same_verdict one other (is_no_text p line bad) (is_cut_off q) = absurd (let e = sym p ∙ q in cc)
  same_verdict one other (is_no_text p line bad) (is_no_text q second worse) = ap Text (same_line site text line second bad worse)
  same_verdict one other (is_no_text p line bad) (is_judged q timeline read verdict judged) =
      absurd (not_read site text line timeline bad read)
  same_verdict one other (is_judged p timeline read verdict judged) (is_refused s q) = absurd (let e = sym p ∙ q in cc)
  same_verdict one other (is_judged p timeline read verdict judged) (is_cut_off q) = absurd (let e = sym p ∙ q in cc)
  same_verdict one other (is_judged p timeline read verdict judged) (is_no_text q line bad) =
      absurd (not_read site text line timeline bad read)
  same_verdict one other (is_judged p timeline read verdict judged) (is_judged q second also other_verdict so) =
      judged_alike timeline second verdict other_verdict read also judged so

pub verdict_is_one : VerdictIsOne
verdict_is_one site lines text one other valid a b = same_verdict site valid lines text one other a b
