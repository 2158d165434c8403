use Rattle.std.proofs.Common.{◌∙◌, Bor, List, ℕ, sym, ap, arith}
use Rattle.std.specs.Prelude.{option_map}
use Rattle.csv.specs.Records.{fields_of}
use Rattle.register_import.proofs.Spelled.{four_at, four_there}
use Rattle.register_import.proofs.four_fields.FourFields.of.Goals as goal

pub returns-in_err-get : goal.returns-in_err-get
returns-in_err-get c =
    absurd (four_there (fields_of c.args.line.now) 0 (sym c.len.ensures ∙ c.if-len-ne4.false) (omega arith)
    (sym c.get.ensures.value ∙ ap (option_map (λ (s : Bor (List ℕ)). s.now)) c.in_err-get.was))

pub returns-in_err-get-2 : goal.returns-in_err-get-2
returns-in_err-get-2 c =
    absurd (four_there (fields_of c.args.line.now) 1 (sym c.len.ensures ∙ c.if-len-ne4.false) (omega arith)
    (sym c.get-2.ensures.value ∙ ap (option_map (λ (s : Bor (List ℕ)). s.now)) c.in_err-get-2.was))

pub returns-in_err-get-3 : goal.returns-in_err-get-3
returns-in_err-get-3 c =
    absurd (four_there (fields_of c.args.line.now) 2 (sym c.len.ensures ∙ c.if-len-ne4.false) (omega arith)
    (sym c.get-3.ensures.value ∙ ap (option_map (λ (s : Bor (List ℕ)). s.now)) c.in_err-get-3.was))

pub returns-in_err-get-4 : goal.returns-in_err-get-4
returns-in_err-get-4 c =
    absurd (four_there (fields_of c.args.line.now) 3 (sym c.len.ensures ∙ c.if-len-ne4.false) (omega arith)
    (sym c.get-4.ensures.value ∙ ap (option_map (λ (s : Bor (List ℕ)). s.now)) c.in_err-get-4.was))

pub returns : goal.returns
returns c =
    let now = option_map (λ (s : Bor (List ℕ)). s.now) in
    four_at (fields_of c.args.line.now) c.in_ok-get.field-0.now c.in_ok-get-2.field-0.now c.in_ok-get-3.field-0.now c.in_ok-get-4.field-0.now
    (sym c.len.ensures ∙ c.if-len-ne4.false) (sym (ap now c.in_ok-get.was) ∙ c.get.ensures.value)
    (sym (ap now c.in_ok-get-2.was) ∙ c.get-2.ensures.value) (sym (ap now c.in_ok-get-3.was) ∙ c.get-3.ensures.value)
    (sym (ap now c.in_ok-get-4.was) ∙ c.get-4.ensures.value)
