use Rattle.std.proofs.Common.{rules, ◌≡◌, ◌++◌, ◌∙◌, sym, ap, subst}
use Rattle.std.specs.Prelude.{OnOk, OnErr, codes}
use Rattle.std.specs.Int.{cast_signed, cast_unsigned, w64}
use Rattle.panel_edges.specs.Contents.{Grows, GrowsByFront}
use Rattle.site_commands.specs.Refusals.{named_text, range_text, refusal_text}
use Rattle.site_commands.proofs.site_lines.write_refusal.Goals as goal

pub returns-in-Missing-clause-ok : goal.returns-in-Missing-clause-ok
returns-in-Missing-clause-ok g c =
    subst (λ text. OnOk c.write_key.result (Grows (g.K.Stream.written c.args.out.now) (g.K.Stream.written c.write_key.new.out) text))
    (ap (λ name. named_text (c.args.word.now ++ codes " 2 ") name (codes "\n")) c.as_str.ensures ∙ ap (refusal_text c.args.word.now) (sym c.in-Missing.is))
    c.write_key.ensures.ok

pub returns-in-WrongKind-clause-ok : goal.returns-in-WrongKind-clause-ok
returns-in-WrongKind-clause-ok g c =
    subst (λ text. OnOk c.write_key-in-WrongKind.result (Grows (g.K.Stream.written c.args.out.now) (g.K.Stream.written c.write_key-in-WrongKind.new.out) text))
    (ap (λ name. named_text (c.args.word.now ++ codes " 3 ") name (codes "\n")) c.as_str-in-WrongKind.ensures ∙ ap (refusal_text c.args.word.now) (sym c.in-WrongKind.is))
    c.write_key-in-WrongKind.ensures.ok

pub returns-in-Unknown-clause-ok : goal.returns-in-Unknown-clause-ok
returns-in-Unknown-clause-ok g c =
    subst (λ text. OnOk c.write_key-in-Unknown.result (Grows (g.K.Stream.written c.args.out.now) (g.K.Stream.written c.write_key-in-Unknown.new.out) text))
    (ap (λ name. named_text (c.args.word.now ++ codes " 4 ") name (codes "\n")) c.as_str-in-Unknown.ensures ∙ ap (refusal_text c.args.word.now) (sym c.in-Unknown.is))
    c.write_key-in-Unknown.ensures.ok

pub returns-in-OutOfRange-clause-err : goal.returns-in-OutOfRange-clause-err
returns-in-OutOfRange-clause-err g c =
    let number : cast_signed w64 (cast_unsigned w64 c.in-OutOfRange.number) ≡ c.in-OutOfRange.number = search rules in
    subst (λ text. OnErr c.write_range.result (GrowsByFront (g.K.Stream.written c.args.out.now) (g.K.Stream.written c.write_range.new.out) text))
    (ap (λ n. range_text c.args.word.now c.as_str-in-OutOfRange.result.now n) number
    ∙ ap (λ key. range_text c.args.word.now key c.in-OutOfRange.number) c.as_str-in-OutOfRange.ensures
    ∙ ap (refusal_text c.args.word.now) (sym c.in-OutOfRange.is)) c.write_range.ensures.err

pub returns-in-Twice-clause-ok : goal.returns-in-Twice-clause-ok
returns-in-Twice-clause-ok g c =
    subst (λ text. OnOk c.write_key-in-Twice.result (Grows (g.K.Stream.written c.args.out.now) (g.K.Stream.written c.write_key-in-Twice.new.out) text))
    (ap (λ name. named_text (c.args.word.now ++ codes " 6 ") name (codes "\n")) c.as_str-in-Twice.ensures ∙ ap (refusal_text c.args.word.now) (sym c.in-Twice.is))
    c.write_key-in-Twice.ensures.ok

pub returns-in-NoSuch-clause-ok : goal.returns-in-NoSuch-clause-ok
returns-in-NoSuch-clause-ok g c =
    subst (λ text. OnOk c.write_key-in-NoSuch.result (Grows (g.K.Stream.written c.args.out.now) (g.K.Stream.written c.write_key-in-NoSuch.new.out) text))
    (ap (λ name. named_text (c.args.word.now ++ codes " 7 ") name (codes "\n")) c.as_str-in-NoSuch.ensures ∙ ap (refusal_text c.args.word.now) (sym c.in-NoSuch.is))
    c.write_key-in-NoSuch.ensures.ok

pub returns-in-PartnerNotMutual-clause-ok : goal.returns-in-PartnerNotMutual-clause-ok
returns-in-PartnerNotMutual-clause-ok g c =
    subst (λ text. OnOk c.write_key-in-PartnerNotMutual.result (Grows (g.K.Stream.written c.args.out.now) (g.K.Stream.written c.write_key-in-PartnerNotMutual.new.out) text))
    (ap (λ name. named_text (c.args.word.now ++ codes " 9 ") name (codes "\n")) c.as_str-in-PartnerNotMutual.ensures.value ∙ ap (refusal_text c.args.word.now)
    (sym c.in-PartnerNotMutual.is)) c.write_key-in-PartnerNotMutual.ensures.ok

pub returns-in-SectionCrossesZones-clause-err : goal.returns-in-SectionCrossesZones-clause-err
returns-in-SectionCrossesZones-clause-err g c =
    subst (λ text. OnErr c.write_all.result (GrowsByFront (g.K.Stream.written c.args.out.now) (g.K.Stream.written c.write_all.new.out) text))
    (c.as_bytes.ensures.value ∙ c.as_str-in-SectionCrossesZones.ensures.value ∙ c.crossing_line-text.ensures ∙ ap (refusal_text c.args.word.now)
    (sym c.in-SectionCrossesZones.is)) c.write_all.ensures.err

pub returns-in-TooLong-clause-ok : goal.returns-in-TooLong-clause-ok
returns-in-TooLong-clause-ok g c =
    subst (λ text. OnOk c.write_number-in-TooLong.result (Grows (g.K.Stream.written c.args.out.now) (g.K.Stream.written c.write_number-in-TooLong.new.out) text))
    (ap (refusal_text c.args.word.now) (sym c.in-TooLong.is)) c.write_number-in-TooLong.ensures.ok
