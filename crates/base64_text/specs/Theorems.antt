-- What is proved of the definitions: a size by `Base64` is that of an encoding by `Encoding`. Assumes nothing.
use Rattle.std.specs.Prelude.{ℕ, true, not, List, ◌≡◌, ltb, eqb, length, Some}
use Prim.Native.String.{String}
use Rattle.ascii.specs.Bytes.{all}
use Rattle.ascii.specs.Text.{bytes}
use Rattle.base64_text.specs.Base64.{blob_size}
use Rattle.base64_text.specs.Encoding.{encode}

-- a text is the encoding of n bytes, these
pub record Encoded (t : List ℕ) (n : ℕ) : Type 0 where
  pub of : List ℕ
  pub low : all (λ b. ltb b 256) of ≡ true
  pub count : length of ≡ n
  pub is : encode of ≡ t

-- A text has a size exactly if it is the encoding of so many bytes.
pub record SizesAreOfEncodings : Type 0 where
  pub only : (t : List ℕ) (n : ℕ) → blob_size t ≡ Some n → Encoded t n
  pub each : (t : List ℕ) (n : ℕ) → Encoded t n → blob_size t ≡ Some n

-- A text with a backslash has no size: an escape is never base64.
abbrev pub SizedHasNoEscape : Type 0
SizedHasNoEscape = (t : List ℕ) (n : ℕ) → blob_size t ≡ Some n → all (λ b. not (eqb b 92)) t ≡ true

-- RFC 4648, section 10: a text, and its encoding, which has the text's size
pub record Vector (plain coded : String) : Type 0 where
  pub encodes : encode (bytes plain) ≡ bytes coded
  pub sizes : blob_size (bytes coded) ≡ Some (length (bytes plain))

pub record VectorsAreRight : Type 0 where
  pub empty : Vector "" ""
  pub f : Vector "f" "Zg=="
  pub fo : Vector "fo" "Zm8="
  pub foo : Vector "foo" "Zm9v"
  pub foob : Vector "foob" "Zm9vYg=="
  pub fooba : Vector "fooba" "Zm9vYmE="
  pub foobar : Vector "foobar" "Zm9vYmFy"
