-- The digest of a site file is the SHA-256 of its bytes.
use Rattle.std.specs.Prelude.{ℕ, List}
use Rattle.sha2.specs.Sha256.{sha256}

abbrev pub digest_of : List ℕ → List ℕ
digest_of bytes = sha256 bytes
