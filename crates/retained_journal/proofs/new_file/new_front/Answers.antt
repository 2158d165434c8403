use Rattle.std.proofs.Common.{◌≡◌, true, length, replicate, inl, inr, ◌∙◌, refl, arith}
use Rattle.retained_journal.specs.Places.{file_mark}
use Rattle.retained_journal.specs.Places.{bytes_of_slot, front_bytes, first_slot}
use Rattle.retained_journal.proofs.Agreement.{bytes-agree, first_byte, retained-agrees, slot_number-agrees}
use Rattle.retained_journal.proofs.NewFiles.{beside_slot, bytes_at-whole, zeros_beside, zeros_everywhere}
use Rattle.retained_journal.proofs.WrittenSlots.{sized, still}
use Rattle.retained_journal.proofs.new_file.new_front.Goals as goal

pub returns : goal.returns
returns c =
    let last = c.put-3.new.bytes in
    let mid = c.put-2.new.bytes in
    let digest = c.args.digest.now in
    let slot = c.slot_bytes.result in
    let long : length slot ≡ bytes_of_slot = omega arith in
    let mark =
    still 8 0 first_slot (length slot) file_mark mid last
    (still 8 0 8 (length digest) file_mark c.put.new.bytes mid c.put.ensures.inside c.put-2.ensures.outside (inl (omega arith)))
    c.put-3.ensures.outside (inl (omega arith)) in
    let site =
    still 32 8 first_slot (length slot) digest mid last (sized 32 (length digest) mid 8 digest c.told-digest c.put-2.ensures.inside)
    c.put-3.ensures.outside (inl (omega arith)) in
    let there = sized bytes_of_slot (length slot) last first_slot slot long c.put-3.ensures.inside in
    let zeros =
    zeros_beside (replicate front_bytes 0) last (λ place from apart. c.put-3.ensures.outside place (beside_slot place (length slot) long apart) ∙
    c.put-2.ensures.outside place (inr (omega (arith, from))) ∙ c.put.ensures.outside place (inr (omega (arith, from)))) (zeros_everywhere front_bytes)
    in
    record {
      size = omega arith;
      bytes = c.put-3.ensures.are_bytes;
      mark = bytes-agree 8 last 0 file_mark 0 mark ∙ bytes_at-whole 8 file_mark refl;
      digest_kept = bytes-agree 32 last 8 digest 0 site ∙ bytes_at-whole 32 digest c.told-digest;
      slot_open = first_byte bytes_of_slot last first_slot slot 0 there (omega arith) ∙ c.slot_bytes.ensures.gate;
      number = slot_number-agrees true last first_slot slot 0 there ∙ c.slot_bytes.ensures.number;
      holds = λ wide narrow. retained-agrees wide last first_slot slot 0 there ∙ c.slot_bytes.ensures.state wide narrow;
      zeros = zeros;
    }
