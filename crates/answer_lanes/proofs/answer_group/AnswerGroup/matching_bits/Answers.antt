use Rattle.std.proofs.Common.{◌≡◌, ◌+◌, ◌<◌, ◌&&◌, ◌||◌, ℕ, bit_and, nat_lt, not, sym, ◌∙◌, ap}
use Rattle.site_types.specs.Bits.{has_bit}
use Rattle.answer_lanes.specs.declared.answer_group.AnswerGroup.{AnswerGroup}
use Rattle.site_types.proofs.Masks.{has_bit-and, has_bit-or}
use Rattle.answer_lanes.proofs.MaskBits.{lt_is, matches, matches_back}
use Rattle.answer_lanes.proofs.answer_group.AnswerGroup.matching_bits.Goals as goal

-- a bit of those from a place on
at_place : (mask from bits k : ℕ) → has_bit bits k ≡ (nat_lt k 8 && has_bit mask (from + k)) → k < 8 → has_bit bits k ≡ has_bit mask (from + k)
at_place mask from bits k is small = is ∙ ap (λ b. b && has_bit mask (from + k)) (lt_is k 8 small)

pub returns : goal.returns
returns c = record {
  set = λ k small set. matches (has_bit group.alarms (from + k)) (has_bit group.silents (from + k)) (has_bit c.args.quiet k) (has_bit c.args.silent k)
      (sym (is k small) ∙ set);
  all = λ k small match. is k small
      ∙ matches_back (has_bit group.alarms (from + k)) (has_bit group.silents (from + k)) (has_bit c.args.quiet k) (has_bit c.args.silent k) match;
}
  where
    group : AnswerGroup
    group = c.args.self.now

    from : ℕ
    from = c.args.from

    is : (k : ℕ) → k < 8 → has_bit c.without-2.result k
        ≡ (((has_bit c.args.quiet k && not (has_bit group.silents (from + k))) || (has_bit c.args.silent k && has_bit group.silents (from + k)))
        && not (has_bit group.alarms (from + k)))
    is k small =
        let quiet = has_bit c.args.quiet k in
        let other = has_bit c.args.silent k in
        let alarms = at_place group.alarms from c.bits_within-alarms.result k (c.bits_within-alarms.ensures k) small in
        let silents = at_place group.silents from c.bits_within-silents.result k (c.bits_within-silents.ensures k) small in
        c.without-2.ensures k
        ∙ ap (λ b. b && not (has_bit c.bits_within-alarms.result k)) (has_bit-or c.without.result _ k
        ∙ ap (λ b. b || has_bit (bit_and c.args.silent c.bits_within-silents.result) k) (c.without.ensures k ∙ ap (λ b. quiet && not b) silents)
        ∙ ap (λ b. (quiet && not (has_bit group.silents (from + k))) || b) (has_bit-and c.args.silent c.bits_within-silents.result k
        ∙ ap (λ b. other && b) silents))
        ∙ ap (λ b. ((quiet && not (has_bit group.silents (from + k))) || (other && has_bit group.silents (from + k))) && not b) alarms
