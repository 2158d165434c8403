-- What is asked in a tick where a poller keeps a block for it.
use Rattle.std.proofs.Common.{◌≡◌, ℕ, suc, ◌+◌, ◌%◌, ◌<◌, Bool, false, List, [], ◌∷◌, ◌++◌, length, Some, slice_get, refl, sym, ◌∙◌, ap, arith}
use Rattle.std.proofs.lemmas.Option.{slice_get_within}
use Rattle.std.specs.List.{flat_map, range_with_len}
use Rattle.site_types.specs.declared.site.Site.{Site}
use Rattle.site_types.specs.Bits.{has_bit, mask_of}
use Rattle.site_types.specs.Profile.{round_of}
use Rattle.site_types.specs.Things.{loop_of}
use Rattle.site_types.proofs.Masks.{has_bit-mask, has_bit-zero}
use Rattle.loop_poller.specs.declared.group.Group.{Group}
use Rattle.loop_poller.specs.declared.poller.Poller.{Poller}
use Rattle.loop_poller.specs.Asked.{asked_in, asked_on, status_on}
use Rattle.loop_poller.specs.Blocks.{IsWholeWithin}
use Rattle.loop_poller.specs.Calls.{Call, told_cable, told_point}
use Rattle.loop_poller.specs.Groups.{group_answers}
use Rattle.loop_poller.specs.Stands.{AsksFor, IsSoundBlock, KnowsFaults}
use Rattle.loop_poller.proofs.GroupAnswers.{group_asked, group_within}

-- lists that are the same one by one are the same one behind the other
same_parts : {X Y : Type 0} (f : Y → List X) (g : ℕ → List X) (parts : List Y) (a : ℕ)
    → ((k : ℕ) (part : Y) → slice_get parts k ≡ Some part → f part ≡ g (a + k)) → flat_map f parts ≡ flat_map g (range_with_len a (length parts))
same_parts f g [] a same = refl
same_parts f g (part ∷ parts) a same =
    let first : a + 0 ≡ a = omega arith in
    ap (λ xs. xs ++ flat_map f parts) (same 0 part refl ∙ ap g first)
    ∙ ap (λ xs. g a ++ xs) (same_parts f g parts (a + 1) (λ k other is. same (suc k) other is ∙ ap g (omega arith)))

-- an empty mask has no flag
no_flag : (mask : ℕ) (test : ℕ → Bool) (k : ℕ) → k < 4 → mask ≡ mask_of 4 test → mask ≡ 0 → test k ≡ false
no_flag mask test k small is none = sym (has_bit-mask 4 test k small) ∙ ap (λ m. has_bit m k) (sym is ∙ none) ∙ has_bit-zero k

module _ (site : Site) (panel : ℕ) (calls : List Call) (poller : Poller) (tick : ℕ) (groups : List Group) (asks : AsksFor site panel calls poller)
    (block : IsSoundBlock poller (tick % round_of site.format) groups) where
  -- the points of each group are points of the site
  pub groups_within : (k : ℕ) (group : Group) → slice_get groups k ≡ Some group → IsWholeWithin group poller.states
  groups_within k group at =
      let here = (asks.blocks (tick % round_of site.format) groups block.is).each k group at in
      let line = asks.lines k here.polled here.there in
      let whole = here.has.whole in
      let within = group_within site panel (k + 1) (told_point calls) (told_cable calls) tick here.polled poller.states group asks.valid line asks.states
      here.has.is (omega (arith, whole)) in
      record { whole = whole; within = omega (arith, within, whole) }

  size : length groups ≡ 4
  size = (asks.blocks (tick % round_of site.format) groups block.is).size

  group_told : KnowsFaults site panel calls poller → (k : ℕ) (group : Group) → slice_get groups k ≡ Some group
      → group_answers tick group poller.states ≡ asked_on site panel (told_point calls) (told_cable calls) tick (1 + k)
  group_told faults k group at =
      let here = (asks.blocks (tick % round_of site.format) groups block.is).each k group at in
      let line = asks.lines k here.polled here.there in
      let within = slice_get_within groups k group at in
      let small : k < 4 = omega (arith, within, size) in
      let next : k + 1 ≡ 1 + k = omega arith in
      let status = λ (place : ℕ). status_on (loop_of site panel (place + 1)) (told_cable calls (place + 1)) in
      sym (group_asked site panel (k + 1) (told_point calls) (told_cable calls) tick here.polled poller.states group asks.valid line asks.states
      here.has.is (no_flag poller.broken (λ place. (status place).broken) k small faults.broken block.whole)
      (no_flag poller.shorted (λ place. (status place).shorted) k small faults.shorted block.unshorted))
      ∙ ap (asked_on site panel (told_point calls) (told_cable calls) tick) next

  -- what the points of the groups tell is all that is asked
  pub block_asked : KnowsFaults site panel calls poller
      → flat_map (λ group. group_answers tick group poller.states) groups ≡ asked_in site panel (told_point calls) (told_cable calls) tick
  unfolding asked_in
  block_asked faults =
      let asked = asked_on site panel (told_point calls) (told_cable calls) tick in
      same_parts (λ group. group_answers tick group poller.states) asked groups 1 (group_told faults)
      ∙ ap (λ n. flat_map asked (range_with_len 1 n)) size
