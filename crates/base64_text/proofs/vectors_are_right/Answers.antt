-- `base64::vectors_are_right` promises what is computed. Assumes nothing.
use mathlib.Core.Path.{refl}
use Rattle.ascii.specs.Text.{bytes}
use Rattle.ascii.specs.Bytes.{is_in}
use Rattle.base64_text.specs.Base64.{sextet, is_sextet, is_whole, padded, more, blob_size}
use Rattle.base64_text.specs.Encoding.{alphabet, character, groups, encode}
use Rattle.base64_text.proofs.vectors_are_right.Goals as goal

pub returns : goal.returns
unfolding bytes is_in sextet is_sextet is_whole padded more blob_size alphabet character groups encode
returns c = (
  refl,
  record {
    empty = record { encodes = refl; sizes = refl };
    f = record { encodes = refl; sizes = refl };
    fo = record { encodes = refl; sizes = refl };
    foo = record { encodes = refl; sizes = refl };
    foob = record { encodes = refl; sizes = refl };
    fooba = record { encodes = refl; sizes = refl };
    foobar = record { encodes = refl; sizes = refl };
  },
)
