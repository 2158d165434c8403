-- What is found of an answer that tells plainly of the zone of its point or of none, and which answers of a block are
-- passed.
use Rattle.std.proofs.Common.{◌≡◌, ℕ, ◌+◌, ◌*◌, ◌/◌, ◌%◌, ◌^◌, ◌<◌, ◌≤◌, ◌==◌, ◌&&◌, ◌||◌, Bool, true, false, List, [], ◌∷◌, ◌++◌}
use Rattle.std.proofs.Common.{bit_and, get_or, if◌then◌else◌, slice_index, slice_index_or, refl, sym, ◌∙◌, ap, arith}
use Rattle.std.specs.Int.{w32, bit_not, to_le_bytes}
use Rattle.std.specs.Int.Bits.{bit_or}
use Rattle.site_types.specs.declared.answer.Answer.{Answer}
use Rattle.site_types.specs.declared.heard.Heard.TheVariants.{Alarm, Quiet, Silent}
use Rattle.site_types.specs.declared.retained.Retained.{Retained}
use Rattle.site_types.specs.declared.site.Site.{Site}
use Rattle.site_types.specs.Bits.{has_bit}
use Rattle.site_types.specs.Done.{Done}
use Rattle.site_types.proofs.Masks.{has_bit-and, has_bit-not, has_bit-or, has_bit-zero}
use Rattle.answer_lanes.specs.declared.answer_block.AnswerBlock.{AnswerBlock}
use Rattle.answer_lanes.specs.declared.finding_group.FindingGroup.{FindingGroup}
use Rattle.answer_lanes.specs.declared.told.Told.{Told}
use Rattle.answer_lanes.specs.Blocks.{block_answer_at, eight_of, none_told, plainly}
use Rattle.answer_lanes.specs.Places.{has_place}
use Rattle.answer_lanes.specs.Points.{finding_at, mask_if}
use Rattle.answer_lanes.specs.Words.{AreBitsOf, AreEights}
use Rattle.answer_lanes.proofs.Words.{bits_parted}
use Rattle.coincidence_rules.proofs.Lists.{and_both}
use Rattle.coincidence_rules.specs.Counted.{is_alarm, is_silent}
use Rattle.coincidence_rules.specs.Findings.{finding_of}
use Rattle.coincidence.specs.declared.block_findings.BlockFindings.{BlockFindings}
use Rattle.coincidence.specs.declared.block_zones.BlockZones.{BlockZones}
use Rattle.coincidence.specs.declared.decide.Decide.{Decide}
use Rattle.coincidence.specs.declared.judgement.Judgement.{Judgement}
use Rattle.coincidence.specs.declared.plain_finding.PlainFinding.{PlainFinding}
use Rattle.coincidence.specs.declared.plain_zone.PlainZone.{PlainZone}
use Rattle.coincidence.specs.declared.point_watch.PointWatch.{PointWatch}
use Rattle.coincidence.specs.ChangedBlocks.{AreHeardFrom, ArePassedIn, PassesPlainly, PassesTo, TellPlainly}
use Rattle.coincidence.specs.ChangedBlocks.{found_by_bits, found_plainly}
use Rattle.coincidence.specs.GoingOn.{IsMarkedAlarm}
use Rattle.coincidence.specs.Observations.{Judges}
use Rattle.coincidence.specs.PlainZones.{IsOfPoint}
use Rattle.coincidence.specs.Premises.{MayTake}
use Rattle.coincidence.specs.Resting.{LeavesPoint}
use Rattle.coincidence.specs.Stands.{DecidesFor}
use Rattle.coincidence.specs.Steady.{AreStillIn, HasNumberedPoints}
use Rattle.coincidence.specs.ZoneMasks.{ArePlainlyTold, IsMaskAt}
use Rattle.coincidence.proofs.BlockWords.{not_is, silent_bytes}
use Rattle.coincidence.proofs.FindingIs.{HasBit, finding_by}
use Rattle.coincidence.proofs.GoingOn.{found_marked, stands_marked}
use Rattle.coincidence.proofs.PlainAlarms.{plain_alarm_is}
use Rattle.coincidence.proofs.PlainZones.{not_silent, said_of}
use Rattle.coincidence.proofs.Resting.{point_is, takes_one_at_rest, tells_none_at_rest}
use Rattle.coincidence.proofs.Watched.{fits_next, watched, zone_watched}
use Rattle.coincidence.proofs.ZoneMasks.{alarm_is, no_mask}

-- the place of an answer by its eight
pub at_place : (place : ℕ) → 8 * (place / 8) + place % 8 ≡ place
at_place place = omega arith

pub eight_less : (place : ℕ) → place < 32 → place / 8 < 4
eight_less place small = omega (arith, small)

pub within_eight : (place : ℕ) → place % 8 < 8
within_eight place = omega arith

pub same_found : (a b c d : Bool) → a ≡ c → b ≡ d
    → ◌≡◌ {A = PlainFinding} (record { telling = a; missing = b }) (record { telling = c; missing = d })
same_found a b c d e h = cc

-- ---- what is found of an alarm of a detector in a plain zone

none_on : (here : Bool) (b : Bool) → b ≡ false → false ≡ (if here then b else false)
none_on true b e = sym e
none_on false b e = refl

mask_has : (counted : Bool) (zones number : ℕ) → HasBit zones number true → HasBit (mask_if counted zones) number counted
mask_has true zones number bits = bits
mask_has false zones number bits = λ k small. has_bit-zero k ∙ none_on ((k + 1) == number) false refl

mask_fits : (counted : Bool) (zones : ℕ) → zones < 2 ^ 32 → mask_if counted zones < 2 ^ 32
mask_fits true zones fits = fits
mask_fits false zones fits = omega arith

pub detector_found : {site : Site} {kept : Retained} {panel : ℕ} {done : List Done} {taken : List Answer} {decide next : Decide} (stands :
    DecidesFor site kept panel done taken decide) (answer : Answer) (may : MayTake site panel done taken (answer ∷ []))
    (noted : DecidesFor site kept panel done (taken ++ answer ∷ []) next) (r : PointWatch) → r ≡ get_or decide.points answer.point r → (zone : PlainZone)
    → IsOfPoint answer decide zone → (judgement : Judgement) → Judges site kept done answer judgement → is_alarm answer.heard ≡ true → r.manual ≡ false
    → (zones : ℕ) → IsMaskAt site.points site.zones answer.point zones
    → found_plainly answer zones (record { telling = judgement.counted; missing = false }) ≡ finding_of site kept panel done taken answer
detector_found {site} {kept} {panel} {done} {taken} {decide} stands answer may noted r e zone of judgement judges alarm detector zones mask =
    let fits = fits_next site kept panel done taken answer may in
    let s = said_of stands answer fits r e zone of in
    let w = watched stands answer.point fits.own in
    plain_alarm_is stands answer may noted r s.watch e s.read judgement judges (not_silent answer.heard alarm) s.said.rule s.said.partner
    (mask_if judgement.counted zones) 0 (mask_fits judgement.counted zones mask.fits) (omega arith)
    (mask_has judgement.counted zones s.watch.number
    (λ k small.
    mask.bits w.point w.zone w.is_point w.is_zone k small
    ∙ ap (λ n. if (k + 1) == n then true else false) (sym (zone_watched stands answer.point fits.own r s.watch e s.read).number)))
    (λ k small. has_bit-zero k ∙ none_on ((k + 1) == s.watch.number) (judgement.counted && r.manual) (no_call judgement.counted r.manual detector))
  where
    no_call : (counted manual : Bool) → manual ≡ false → (counted && manual) ≡ false
    no_call true manual h = h
    no_call false manual h = refl

-- ---- which answers are passed

left_passed : (decide : Decide) (answer : Answer) → LeavesPoint decide answer → PassesPlainly decide answer
left_passed decide answer leaves_point = record {
  taken = takes_one_at_rest decide answer leaves_point;
  found = λ site kept panel done taken stands may zones mask.
      tells_none_at_rest decide answer leaves_point zones site kept panel done taken stands may;
}

marked_passed : (decide : Decide) (answer : Answer) → IsMarkedAlarm decide answer → decide.since.0 ≤ answer.stamp.0 → PassesPlainly decide answer
marked_passed decide answer marked since = record {
  taken = λ site kept panel done taken stands may. stands_marked stands answer may marked since;
  found = λ site kept panel done taken stands may zones mask. found_marked stands answer may marked since zones mask;
}

pub still_passed : (decide : Decide) (block : AnswerBlock) (word : ℕ) → AreStillIn decide block word → ArePassedIn decide block word
still_passed decide block word stills place small set_bit =
    left_passed decide (block_answer_at block place)
    (stills (place / 8) (place % 8) (eight_less place small) (within_eight place) (ap (has_bit word) (at_place place) ∙ set_bit))

-- answers that leave their points are passed, and alarms that go on
pub going_passed : (decide : Decide) (block : AnswerBlock) → HasNumberedPoints block → decide.since.0 ≤ block.stamp.0 → (still going alarms : ℕ)
    → AreStillIn decide block still → AreEights decide.going_on block.firsts going → AreBitsOf block.alarms alarms
    → ArePassedIn decide block (bit_or still (bit_and going alarms))
going_passed decide block numbers since still going alarms stills are_going are_alarms place small set_bit = by (has_bit still place) refl
  where
    number : ℕ
    number = place / 8

    k : ℕ
    k = place % 8

    behind_still : (b c : Bool) → b ≡ false → (b || c) ≡ true → c ≡ true
    behind_still true c e h = absurd (cc)
    behind_still false c e h = h

    by : (b : Bool) → has_bit still place ≡ b → PassesPlainly decide (block_answer_at block place)
    by true is = still_passed decide block still stills place small is
    by false is =
        let eight = eight_of block number in
        let less = eight_less place small in
        let within = within_eight place in
        let both = and_both (has_bit going place) (has_bit alarms place)
        (sym (has_bit-and going alarms place)
        ∙ behind_still (has_bit still place) (has_bit (bit_and going alarms) place) is (sym (has_bit-or still (bit_and going alarms) place) ∙ set_bit)) in
        marked_passed decide (block_answer_at block place)
        (record {
          alarm = ap (λ b. if b then Alarm else if has_bit eight.silents k then Silent else Quiet)
              (sym (are_alarms number k less within) ∙ ap (has_bit alarms) (at_place place) ∙ both.1);
          has = ap (has_place decide.going_on) (point_is decide eight (numbers number less) k within)
              ∙ sym (are_going number k less within) ∙ ap (has_bit going) (at_place place) ∙ both.0;
        })
        since

-- answers before a place are passed where none of those that may change something is among them
pub passed_below : (decide : Decide) (block : AnswerBlock) (word place next : ℕ) → word < 2 ^ 32 → ArePassedIn decide block word → place ≤ next → next ≤ 32
    → ((k : ℕ) → place ≤ k → k < next → has_bit (bit_not w32 word) k ≡ false) → PassesTo decide block place next
passed_below decide block word place next fits pass least most none = record {
  least = least;
  most = most;
  passed = λ k from less.
      let within : k < 32 = omega (arith, less, most) in
      pass k within (not_is (has_bit word k) (sym (has_bit-not w32 word k fits within) ∙ none k from less));
}

-- ---- what is found of a block

-- before any answer of a block is taken no more is found than what is heard
pub heard_words : (block : AnswerBlock) (alarms silents : ℕ) → alarms < 2 ^ 32 → AreBitsOf block.alarms alarms → AreBitsOf block.silents silents
    → AreHeardFrom block 0 (record { count = 0; telling = alarms; missing = bit_and silents (bit_not w32 alarms) })
heard_words block alarms silents fits are_alarms are_silents place from small =
    let number = place / 8 in
    let k = place % 8 in
    let less = eight_less place small in
    let within = within_eight place in
    let word = bit_and silents (bit_not w32 alarms) in
    let bytes = bits_parted word in
    same_found (has_bit alarms place) (has_bit word place) (is_alarm (block_answer_at block place).heard) (is_silent (block_answer_at block place).heard)
    (ap (has_bit alarms) (sym (at_place place)) ∙ are_alarms number k less within
    ∙ alarm_is (has_bit (slice_index block.alarms number) k) (has_bit (slice_index block.silents number) k))
    (ap (has_bit word) (sym (at_place place)) ∙ bytes number k less within
    ∙ silent_bytes block alarms silents (to_le_bytes w32 word) fits are_alarms are_silents bytes number k less within)

-- what is found by the bits of two words, as a block of findings
pub told_in_words : (block : AnswerBlock) (zones : BlockZones) (found : BlockFindings) (telling missing : List ℕ) → ArePlainlyTold zones
    → AreBitsOf telling found.telling → AreBitsOf missing found.missing → TellPlainly block zones found (record {
      stamp = block.stamp;
      firsts = block.firsts;
      missing = missing;
      telling = telling;
      told = zones.told;
      others = zones.others;
      other_zones = zones.other_zones;
    })
told_in_words block zones found telling missing plain are_telling are_missing place small = by (has_bit (slice_index zones.others number) k)
  where
    number : ℕ
    number = place / 8

    k : ℕ
    k = place % 8

    own : ℕ
    own = (slice_index_or zones.told number none_told).counted

    other : ℕ
    other = slice_index zones.other_zones number

    group : Told → FindingGroup
    group told = record {
      stamp = block.stamp;
      point = slice_index block.firsts number;
      missing = slice_index missing number;
      telling = slice_index telling number;
      counted = told.counted;
      confirmed = told.confirmed;
      manual = told.manual;
      released = told.released;
    }

    tells : has_bit (slice_index telling number) k ≡ has_bit found.telling place
    tells = sym (are_telling number k (eight_less place small) (within_eight place)) ∙ ap (has_bit found.telling) (at_place place)

    misses : has_bit (slice_index missing number) k ≡ has_bit found.missing place
    misses = sym (are_missing number k (eight_less place small) (within_eight place)) ∙ ap (has_bit found.missing) (at_place place)

    of_zones : (mask : ℕ) → finding_at (plainly mask (group none_told)) k ≡ found_plainly (block_answer_at block place) mask (found_by_bits found place)
    of_zones mask =
        let answer = block_answer_at block place in
        let told = has_bit (slice_index telling number) k in
        let silent = has_bit (slice_index missing number) k in
        ap (λ n. finding_by answer (mask_if told mask) (mask_if told mask) n (mask_if told mask) silent) (no_mask told)
        ∙ ap (λ b. finding_by answer (mask_if b mask) (mask_if b mask) 0 (mask_if b mask) silent) tells
        ∙ ap (finding_by answer (mask_if (has_bit found.telling place) mask) (mask_if (has_bit found.telling place) mask) 0
        (mask_if (has_bit found.telling place) mask)) misses

    by : (b : Bool) → finding_at (if b then plainly other (group (slice_index_or zones.told number none_told)) else group (slice_index_or zones.told number none_told)) k
        ≡ found_plainly (block_answer_at block place) (if b then other else own) (found_by_bits found place)
    by true = of_zones other
    by false = ap (λ told. finding_at (group told) k) (plain number (eight_less place small)) ∙ of_zones own
