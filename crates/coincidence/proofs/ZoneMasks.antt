-- Alarms of a block that go on confirm and release the zones in which their points stand, by masks found at the start.
use Rattle.std.proofs.Common.{◌≡◌, ◌≢◌, inl, inr, ⊎_elim, ℕ, zero, suc, ◌+◌, ◌*◌, ◌^◌, ◌<◌, Bool, true, false, not, if◌then◌else◌, List, [], ◌∷◌, ◌++◌, Some, slice_get}
use Rattle.std.proofs.Common.{slice_index, slice_index_or, refl, sym, ◌∙◌, ap, subst, arith}
use Rattle.std.specs.Int.{w32, bit_not}
use Rattle.site_types.specs.declared.site.Site.{Site}
use Rattle.site_types.specs.declared.answer.Answer.{Answer}
use Rattle.site_types.specs.declared.heard.Heard.TheVariants.{Alarm, Quiet, Silent}
use Rattle.site_types.specs.declared.retained.Retained.{Retained}
use Rattle.site_types.specs.declared.point.Point.{Point}
use Rattle.site_types.specs.declared.zone.Zone.{Zone}
use Rattle.site_types.specs.Bits.{has_bit}
use Rattle.site_types.specs.Done.{Done}
use Rattle.site_types.proofs.Done.{lt_tells}
use Rattle.site_types.proofs.Masks.{has_bit-not}
use Rattle.answer_lanes.specs.declared.answer_block.AnswerBlock.{AnswerBlock}
use Rattle.answer_lanes.specs.declared.answer_group.AnswerGroup.{AnswerGroup}
use Rattle.answer_lanes.specs.declared.finding_block.FindingBlock.{FindingBlock}
use Rattle.answer_lanes.specs.declared.finding_group.FindingGroup.{FindingGroup}
use Rattle.answer_lanes.specs.declared.told.Told.{Told}
use Rattle.answer_lanes.specs.Blocks.{eight_finding_at, eight_found, eight_of, none_told, plainly}
use Rattle.answer_lanes.specs.Points.{answer_at, finding_at, mask_if}
use Rattle.coincidence_rules.proofs.Lists.{get_either}
use Rattle.coincidence_rules.specs.Counted.{is_alarm, is_silent}
use Rattle.coincidence.specs.declared.block_zones.BlockZones.{BlockZones}
use Rattle.coincidence.specs.declared.eight_zones.EightZones.{EightZones}
use Rattle.coincidence.specs.declared.decide.Decide.{Decide}
use Rattle.coincidence.specs.Changes.{FindsNext}
use Rattle.coincidence.specs.GoingOn.{AreGoingOnIn, ConfirmsAgain, TellEach, telling_of}
use Rattle.coincidence.specs.Stands.{DecidesFor}
use Rattle.coincidence.specs.Steady.{AreSilentIn, AreStillIn, HasNumberedPoints}
use Rattle.coincidence.specs.ZoneMasks.{ArePlainlyTold, HasBlock, IsMaskAt, TellZonesOf, TellsBlockZones, TellsZonesFrom, mask_in, told_plainly}
use Rattle.coincidence.proofs.BlockWords.{in_word}
use Rattle.coincidence.proofs.FindingIs.{finding_by}
use Rattle.coincidence.proofs.GoingOn.{confirms_marked}
use Rattle.coincidence.proofs.Resting.{point_is, takes_one_at_rest, tells_none_at_rest}
use Rattle.coincidence.proofs.Steady.{IsSteadyBlock, steady_block, steady_each, steady_one}

-- ---- what is found of the answers of a group, and of a block

pub alarm_is : (alarm silent : Bool) → alarm ≡ is_alarm (if alarm then Alarm else if silent then Silent else Quiet)
alarm_is true silent = refl
alarm_is false true = refl
alarm_is false false = refl

pub no_mask : (told : Bool) → mask_if told 0 ≡ 0
no_mask true = refl
no_mask false = refl

-- whatever zones the alarms of a group tell plainly of
pub group_told : (answers : AnswerGroup) (zones missing k : ℕ) → has_bit missing k ≡ is_silent (answer_at answers k).heard
    → finding_at (record {
      stamp = answers.stamp;
      point = answers.point;
      missing = missing;
      telling = answers.alarms;
      counted = zones;
      confirmed = zones;
      manual = 0;
      released = zones;
    }) k ≡ telling_of zones (answer_at answers k)
group_told answers zones missing k heard =
    let answer = answer_at answers k in
    let alarm = has_bit answers.alarms k in
    let silent = has_bit missing k in
    ap (λ n. finding_by answer (mask_if alarm zones) (mask_if alarm zones) n (mask_if alarm zones) silent) (no_mask alarm)
    ∙ ap (λ b. finding_by answer (mask_if b zones) (mask_if b zones) 0 (mask_if b zones) silent) (alarm_is alarm (has_bit answers.silents k))
    ∙ ap (λ m. finding_by answer (mask_if (is_alarm answer.heard) zones) (mask_if (is_alarm answer.heard) zones) 0
    (mask_if (is_alarm answer.heard) zones) m) heard

-- what is found of an answer of a block
pub block_told : (answers : AnswerBlock) (zones : BlockZones) (missing : List ℕ) → ArePlainlyTold zones → AreSilentIn answers missing
    → TellEach answers zones (record {
      stamp = answers.stamp;
      firsts = answers.firsts;
      missing = missing;
      telling = answers.alarms;
      told = zones.told;
      others = zones.others;
      other_zones = zones.other_zones;
    })
block_told answers zones missing plain silents number k less small = by (has_bit (slice_index zones.others number) k)
  where
    eight : AnswerGroup
    eight = eight_of answers number

    own : ℕ
    own = (slice_index_or zones.told number none_told).counted

    other : ℕ
    other = slice_index zones.other_zones number

    group : Told → FindingGroup
    group told = record {
      stamp = answers.stamp;
      point = slice_index answers.firsts number;
      missing = slice_index missing number;
      telling = slice_index answers.alarms number;
      counted = told.counted;
      confirmed = told.confirmed;
      manual = told.manual;
      released = told.released;
    }

    silent : has_bit (slice_index missing number) k ≡ is_silent (answer_at eight k).heard
    silent = silents number k less small

    by : (b : Bool) → finding_at (if b then plainly other (group (slice_index_or zones.told number none_told)) else group (slice_index_or zones.told number none_told)) k
        ≡ telling_of (if b then other else own) (answer_at eight k)
    by true = group_told eight other (slice_index missing number) k silent
    by false = ap (λ told. finding_at (group told) k) (plain number less) ∙ group_told eight own (slice_index missing number) k silent

-- ---- a whole block of answers that leave their points as they are, or are alarms that go on

module _ (decide : Decide) (block : AnswerBlock) (numbers : HasNumberedPoints block) (zones : BlockZones)
    (known : HasBlock decide.told.blocks.items block.firsts zones) (still : ℕ) (fits : still < 2 ^ 32) (stills : AreStillIn decide block still)
    (going : AreGoingOnIn decide block (bit_not w32 still)) where
  mask_is : (number k : ℕ) → number < 4 → k < 8 → (site : Site) (kept : Retained) (panel : ℕ) (done : List Done) (taken : List Answer)
      → DecidesFor site kept panel done taken decide
      → IsMaskAt site.points site.zones (answer_at (eight_of block number) k).point (mask_in zones number k)
  mask_is number k less small site kept panel done taken stands =
      subst (λ n. IsMaskAt site.points site.zones n (mask_in zones number k)) (sym (point_is decide (eight_of block number) (numbers number less) k small))
      (subst (λ (firsts : List ℕ). IsMaskAt site.points site.zones (slice_index firsts number + k) (mask_in zones number k)) known.of
      ((stands.told known.number zones known.is).masks number k less small))

  confirms_by : (number k : ℕ) → number < 4 → k < 8 → (b : Bool) → has_bit still (8 * number + k) ≡ b
      → ConfirmsAgain decide (answer_at (eight_of block number) k) (mask_in zones number k)
  confirms_by number k less small true is =
      let item = answer_at (eight_of block number) k in
      let leaves_point = stills number k less small is in
      record {
        taken = takes_one_at_rest decide item leaves_point;
        found = tells_none_at_rest decide item leaves_point (mask_in zones number k);
      }
  confirms_by number k less small false is =
      let place = 8 * number + k in
      confirms_marked decide (answer_at (eight_of block number) k) (mask_in zones number k)
      (going.marked number k less small (has_bit-not w32 still place fits (in_word number k less small) ∙ ap not is)) going.since
      (mask_is number k less small)

  pub going_block : (found : FindingBlock) → TellEach block zones found → IsSteadyBlock decide block found
  going_block found tells =
      steady_block decide block found
      (λ number less.
      steady_each decide (eight_of block number) (eight_found found number)
      (λ k small.
      let item = answer_at (eight_of block number) k in
      let one = confirms_by number k less small (has_bit still (8 * number + k)) refl in
      steady_one decide item (eight_finding_at (eight_found found number) k) one.taken
      (subst (FindsNext decide item) (sym (tells number k less small)) one.found)))

-- what is told of the blocks of a panel is told plainly
pub known_plain : (decide : Decide) (firsts : List ℕ) (zones : BlockZones) → HasBlock decide.told.blocks.items firsts zones
    → (site : Site) (kept : Retained) (panel : ℕ) (done : List Done) (taken : List Answer) → DecidesFor site kept panel done taken decide
    → ArePlainlyTold zones
known_plain decide firsts zones known site kept panel done taken stands = (stands.told known.number zones known.is).plain

-- ---- what is found at the start

-- the masks of an eight, where these are told plainly
pub plain_told : (told : Told) (zones : ℕ) → told ≡ told_plainly zones → told ≡ told_plainly told.counted
plain_told told zones is = is ∙ ap (λ (t : Told). told_plainly t.counted) (sym is)

pub masks_told : (points : List Point) (zones : List Zone) (first : ℕ) (found : EightZones) (told : Told) → TellsZonesFrom points zones first found
    → told ≡ told_plainly found.zones → (k : ℕ) → k < 8
    → IsMaskAt points zones (first + k) (if has_bit found.others k then found.other_zones else told.counted)
masks_told points zones first found told tells is k small =
    subst (λ (t : Told). IsMaskAt points zones (first + k) (if has_bit found.others k then found.other_zones else t.counted)) (sym is) (tells k small)

only_one : {X : Type 0} (x y : X) (k : ℕ) → slice_get (x ∷ []) k ≡ Some y → x ≡ y
only_one x y zero is = cc
only_one x y (suc k) is = cc

-- one block more is told of
pub one_block_more : (points : List Point) (zones : List Zone) (blocks : List BlockZones) (block : BlockZones) → TellsBlockZones points zones block
    → TellZonesOf points zones blocks → TellZonesOf points zones (blocks ++ block ∷ [])
one_block_more points zones blocks block tells before number found there =
    ⊎_elim (λ old. before number found old) (λ last. subst (TellsBlockZones points zones) (only_one block found last.0 last.2) tells)
    (get_either blocks (block ∷ []) number found there)

-- of one point more of an eight it is told in which of two zones it stands
pub one_point_more : (points : List Point) (zones : List Zone) (first k others more mask own other : ℕ) (second : Bool) → k < 8
    → ((j : ℕ) → j < k → IsMaskAt points zones (first + j) (if has_bit others j then other else own)) → IsMaskAt points zones (first + k) mask
    → mask ≡ (if second then other else own) → has_bit more k ≡ second → ((j : ℕ) → j < 8 → j ≢ k → has_bit more j ≡ has_bit others j)
    → (j : ℕ) → j < k + 1 → IsMaskAt points zones (first + j) (if has_bit more j then other else own)
one_point_more points zones first k others more mask own other second few before is which this same j small = elim (lt_tells j k) [
  | inl under ↦
      (let less = under.1 in
      let apart : j ≢ k = λ e. omega (arith, e, less) in
      subst (λ b. IsMaskAt points zones (first + j) (if b then other else own)) (sym (same j (omega (arith, less, few)) apart)) (before j less))
  | inr above ↦
      (let past = above.1 in
      let here : k ≡ j = omega (arith, small, past) in
      subst (λ n. IsMaskAt points zones (first + n) (if has_bit more n then other else own)) here
      (subst (λ b. IsMaskAt points zones (first + k) (if b then other else own)) (sym this) (subst (IsMaskAt points zones (first + k)) which is)))
]
