use Rattle.panel_frames.proofs.Printing.{word_put}
use Rattle.panel_frames.proofs.print.push_word.Goals as goal

pub returns-clause-text : goal.returns-clause-text
returns-clause-text c =
    rw (
      c.push-6.ensures.text,
      c.push-5.ensures.text,
      c.push-4.ensures.text,
      c.push-3.ensures.text,
      c.push-2.ensures.text,
      c.push.ensures.text,
      c.fault_byte.ensures,
      c.to_be_bytes.ensures,
      c.to_be_bytes-2.ensures,
      c.to_be_bytes-3.ensures,
      c.to_be_bytes-4.ensures,
      c.to_be_bytes-5.ensures,
    )
    (word_put c.args.out.now.items c.args.word.now)
