-- Claims on the bytes of a file, where the disk tells them.
use Rattle.std.specs.Prelude.{Option, Some, None, IfSome}

pub both_told : {X : Type 0} (o : Option X) {P Q R : X → Type 0} → IfSome o P → IfSome o Q → ((x : X) → P x → Q x → R x) → IfSome o R
both_told None p q f = tt
both_told (Some x) p q f = f x p q

pub each_told : {X : Type 0} (o : Option X) {P : X → Type 0} → ((x : X) → P x) → IfSome o P
each_told None f = tt
each_told (Some x) f = f x

pub three_told : {X : Type 0} (o : Option X) {P Q R S : X → Type 0} → IfSome o P → IfSome o Q → IfSome o R → ((x : X) → P x → Q x → R x → S x)
    → IfSome o S
three_told None p q r f = tt
three_told (Some x) p q r f = f x p q r
