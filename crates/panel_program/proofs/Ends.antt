-- How bytes end a run, by those that were read.
use Rattle.std.proofs.Common.{◌≡◌, ◌∙◌, ◌+◌, ◌-◌, ◌<◌, ◌≤◌, ◌++◌, ℕ, true, false, List, [], length, take, Some, if◌then◌else◌, refl, sym, ap, subst, arith, append-nil}
use Rattle.std.specs.Prelude.{nat_lt}
use Rattle.std.proofs.Math.Seq.{take-append-add}
use Rattle.std.proofs.lemmas.List.{take_all, take-append-le}
use Rattle.std.proofs.lemmas.Bool.Decides.{nat_tests}
use Rattle.panel_edges.specs.Limits.{most_record_bytes}
use Rattle.site_types.specs.declared.site.Site.{Site}
use Rattle.record_lines.specs.Lines.{Reading, reading_of}
use Rattle.record_lines.specs.declared.over.Over.{Over}
use Rattle.record_lines.specs.declared.over.Over.TheVariants.{Ended as OverEnded, Refused as OverRefused}
use Rattle.record_lines.specs.declared.why.Why.TheVariants.{Truncated}
use Rattle.panel_program.specs.declared.run_end.RunEnd.{RunEnd}
use Rattle.panel_program.specs.declared.run_end.RunEnd.TheVariants.{Ended, Refused, TooManyBytes, ReadFault}
use Rattle.site_run.specs.Records.{progress_of, ticks_run}
use Rattle.panel_program.specs.Endings.{end_of, end_in, end_by, end_without, within_limit}
use Rattle.panel_program.specs.Taking.{EndsAt, IsGoing}
use Rattle.panel_program.specs.Runs.{EndsRun}
use Rattle.record_readings.proofs.Growths.{Grown, grown}

-- within the limit these bytes go on with some of the rest
pub record Within (bytes consumed : List ℕ) : Type 0 where
  pub more : List ℕ
  pub is : within_limit bytes ≡ consumed ++ more

pub within_rest : (bytes consumed rest : List ℕ) → bytes ≡ consumed ++ rest → length consumed ≤ most_record_bytes → Within bytes consumed
within_rest bytes consumed rest whole le =
    let more = most_record_bytes - length consumed in
    record {
      more = take more rest;
      is =
          ap (take most_record_bytes) whole
          ∙ ap (λ n. take n (consumed ++ rest)) (sum_is most_record_bytes (length consumed) le)
          ∙ take-append-add consumed rest more;
    }
  where
    sum_is : (m n : ℕ) → n ≤ m → m ≡ n + (m - n)
    sum_is m n le = omega (arith, le)

module _ (site : Site) (bytes consumed rest : List ℕ) (whole : bytes ≡ consumed ++ rest) (le : length consumed ≤ most_record_bytes) where
  there : Within bytes consumed
  there = within_rest bytes consumed rest whole le

  behind : Grown (reading_of site consumed) (reading_of site (within_limit bytes))
  behind = subst (λ xs. Grown (reading_of site consumed) (reading_of site xs)) (sym there.is) (grown site consumed there.more)

  -- the reading was over
  over_whole : (over : Over) (end : RunEnd) → ((count number : ℕ) → end_by count number (Some over) ≡ end)
      → (reading_of site consumed).ending ≡ Some over
      → (end ≡ end_of site bytes) × (ticks_run site consumed ≡ ticks_run site (within_limit bytes))
  over_whole over end by is =
      let same : reading_of site (within_limit bytes) ≡ reading_of site consumed = behind.stays over is in
      let count = length (within_limit bytes) in
      let number = (reading_of site consumed).number in (
        sym (by count number) ∙ ap (end_by count number) (sym is) ∙ ap (end_in count) (sym same),
        ap (λ (r : Reading). (progress_of site r.lines).run) (sym same),
      )

  -- these bytes end a run, and so do all that there are
  pub ends_whole : (end : RunEnd) → EndsAt site consumed end → EndsRun site bytes consumed end
  ends_whole Ended h = over_whole OverEnded Ended (λ count number. refl) h
  ends_whole (Refused refusal) h = over_whole (OverRefused refusal) (Refused refusal) (λ count number. refl) h
  ends_whole TooManyBytes h = absurd h
  ends_whole ReadFault h = absurd h

-- nothing ended the run in these bytes, which are all that there are within the limit
going_whole : (site : Site) (bytes consumed : List ℕ) → within_limit bytes ≡ consumed → IsGoing site consumed
    → (end_without (length consumed) (reading_of site consumed).number ≡ end_of site bytes)
    × (ticks_run site consumed ≡ ticks_run site (within_limit bytes))
going_whole site bytes consumed is going =
    let r = reading_of site consumed in (
      ap (end_by (length consumed) r.number) (sym going) ∙ ap (λ xs. end_in (length xs) (reading_of site xs)) (sym is),
      ap (ticks_run site) (sym is),
    )

lt_true : (m n : ℕ) → m < n → nat_lt m n ≡ true
lt_true m n h = grind (arith, nat_tests, h)

lt_false : (n : ℕ) → nat_lt n n ≡ false
lt_false n = grind (arith, nat_tests)

-- the input ended
pub truncated_whole : (site : Site) (bytes consumed rest : List ℕ) (number : ℕ) → bytes ≡ consumed ++ rest → rest ≡ []
    → length consumed < most_record_bytes → IsGoing site consumed → number ≡ (reading_of site consumed).number
    → EndsRun site bytes consumed (Refused (record { line = number; why = Truncated }))
truncated_whole site bytes consumed rest number whole none few going is =
    let same : bytes ≡ consumed = whole ∙ ap (λ ys. consumed ++ ys) none ∙ append-nil consumed in
    let within : within_limit bytes ≡ consumed = ap within_limit same ∙ take_all most_record_bytes consumed (omega (arith, few)) in
    let h = going_whole site bytes consumed within going in (
      ap (λ n. Refused (record { line = n; why = Truncated })) is
          ∙ sym (ap (λ b. if b then Refused (record { line = (reading_of site consumed).number; why = Truncated }) else TooManyBytes)
          (lt_true (length consumed) most_record_bytes few))
          ∙ h.0,
      h.1,
    )

-- as many bytes were read as a record may have
pub limit_whole : (site : Site) (bytes consumed rest : List ℕ) → bytes ≡ consumed ++ rest → length consumed ≡ most_record_bytes
    → IsGoing site consumed → EndsRun site bytes consumed TooManyBytes
limit_whole site bytes consumed rest whole count going =
    let within : within_limit bytes ≡ consumed =
    ap (take most_record_bytes) whole ∙ ap (λ n. take n (consumed ++ rest)) (sym count) ∙ take-append-le (length consumed) consumed rest (omega arith)
    ∙ take_all (length consumed) consumed (omega arith)
    in
    let h = going_whole site bytes consumed within going in (
      sym (ap (λ b. if b then Refused (record { line = (reading_of site consumed).number; why = Truncated }) else TooManyBytes)
          (ap (λ n. nat_lt n most_record_bytes) count ∙ lt_false most_record_bytes))
          ∙ h.0,
      h.1,
    )
