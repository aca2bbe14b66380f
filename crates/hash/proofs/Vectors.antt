-- Published test vectors of FNV-1a, and the place of one accessible. Assumes nothing.
use mathlib.Core.Path.{◌≡◌, refl}
use Rattle.ascii.specs.Text.{bytes}
use Rattle.hash.specs.Hash.{wrapping_product, hash_byte, hash_from, hash, start_place}

no_byte : hash (bytes "") ≡ 0x811c9dc5
unfolding wrapping_product hash_byte hash_from hash bytes
no_byte = refl

one_byte : hash (bytes "a") ≡ 0xe40c292c
unfolding wrapping_product hash_byte hash_from hash bytes
one_byte = refl

six_bytes : hash (bytes "foobar") ≡ 0xbf9cf968
unfolding wrapping_product hash_byte hash_from hash bytes
six_bytes = refl

a_place : start_place (bytes "t1") (bytes "target") ≡ 13
unfolding wrapping_product hash_byte hash_from hash start_place bytes
a_place = refl
