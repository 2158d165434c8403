-- Bytes that are put behind one another.
use Rattle.std.proofs.Common.{◌≡◌, ◌++◌, List, [], ◌∷◌, ℕ, ◌∙◌, append_assoc, if◌then◌else◌}
use Rattle.std.specs.Int.{w32, w64, to_be_bytes}
use Rattle.site_types.specs.declared.word.Word.{Word}
use Rattle.panel_frames.specs.Bytes.{word_bytes}

put_together : (o a b c d e f : List ℕ) → (((((o ++ a) ++ b) ++ c) ++ d) ++ e) ++ f ≡ o ++ (a ++ (b ++ (c ++ (d ++ (e ++ f)))))
put_together o a b c d e f =
    append_assoc ((((o ++ a) ++ b) ++ c) ++ d) e f ∙ append_assoc (((o ++ a) ++ b) ++ c) d (e ++ f) ∙ append_assoc ((o ++ a) ++ b) c (d ++ (e ++ f))
    ∙ append_assoc (o ++ a) b (c ++ (d ++ (e ++ f))) ∙ append_assoc o a (b ++ (c ++ (d ++ (e ++ f))))

pub word_put : (out : List ℕ) (word : Word)
    → (((((out ++ to_be_bytes w64 word.stamp.0) ++ to_be_bytes w32 word.alarm) ++ to_be_bytes w32 word.manual) ++ to_be_bytes w32 word.released) ++ to_be_bytes w32 word.first) ++ ((if word.fault then 1 else 0) ∷ [])
    ≡ out ++ word_bytes word
unfolding word_bytes
word_put out word = put_together out (to_be_bytes w64 word.stamp.0) (to_be_bytes w32 word.alarm) (to_be_bytes w32 word.manual)
    (to_be_bytes w32 word.released) (to_be_bytes w32 word.first) ((if word.fault then 1 else 0) ∷ [])
