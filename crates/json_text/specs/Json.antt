-- JSON (RFC 8259) over the bytes 32 to 126: the value that a text is, by recursive descent, and a value's compact text.
-- A reader gives what it read and the bytes that are left, or none. Assumes nothing.
use Rattle.std.specs.Prelude.{ℕ, zero, suc, ◌-◌, Bool, true, false, cond, ◌||◌, List, [], ◌∷◌, ◌++◌, length, take, eqb, Option, Some, None}
use Rattle.ascii.specs.Text.{bytes}
use Rattle.ascii.specs.Bytes.{◌>>=◌, head, tail, drop_while, after, is_in, is_printable, is_space}
use Rattle.decimal.specs.Token as Token

mutual
  -- a value; a number has the bytes of its token, a string those between its quotes, escapes as they stand
  pub data Json : Type 0 where
    null : Json
    boolean : Bool → Json
    number : List ℕ → Json
    string : List ℕ → Json
    array : Items → Json
    object : Members → Json

  pub data Items : Type 0 where
    no_items : Items
    item : Json → Items → Items

  pub data Members : Type 0 where
    no_members : Members
    member : List ℕ → Json → Members → Members

-- ## Strings, past the opening quote

-- a digit, 'A' to 'F', 'a' to 'f'
unfoldable pub is_hex : ℕ → Bool
is_hex b = is_in 48 57 b || is_in 65 70 b || is_in 97 102 b

-- what may follow a backslash: " / \ b f n r t
unfoldable pub is_escape : ℕ → Bool
is_escape b = eqb b 34 || eqb b 47 || eqb b 92 || eqb b 98 || eqb b 102 || eqb b 110 || eqb b 114 || eqb b 116

unfoldable pub hex : List ℕ → Option (List ℕ)
hex xs = cond (is_hex (head xs)) (Some (tail xs)) None

unfoldable pub hex4 : List ℕ → Option (List ℕ)
hex4 xs = hex xs >>= hex >>= hex >>= hex

-- past a backslash: 'u' (117) and four hexadecimal digits, or one of the others
unfoldable pub escape : List ℕ → Option (List ℕ)
escape xs = cond (eqb (head xs) 117) (hex4 (tail xs)) (cond (is_escape (head xs)) (Some (tail xs)) None)

-- one character; "a byte outside 32 to 126 in any value" is no JSON. The quote is taken out before [V-2]
unfoldable pub char : List ℕ → Option (List ℕ)
char xs = cond (eqb (head xs) 92) (escape (tail xs)) (cond (is_printable (head xs)) (Some (tail xs)) None)

-- characters up to the closing quote (34), fewer than n of them
unfoldable pub chars : ℕ → List ℕ → Option (List ℕ)
chars zero xs = None
chars (suc n) xs = cond (eqb (head xs) 34) (Some (tail xs)) (char xs >>= chars n)

-- a character is a byte at least, so there are fewer than there are bytes up to the quote
unfoldable pub string_end : List ℕ → Option (List ℕ)
string_end xs = chars (length xs) xs

-- ## Values

-- spaces: no other white space of RFC 8259 is within 32 to 126
abbrev pub skip : List ℕ → List ℕ
skip xs = drop_while is_space xs

-- the bytes of xs in front of what is left, r; and those in front of the one byte before r
unfoldable pub up_to : List ℕ → List ℕ → List ℕ
up_to xs r = take (length xs - length r) xs

unfoldable pub inside : List ℕ → List ℕ → List ℕ
inside xs r = take (length xs - suc (length r)) xs

-- what a reader of a part gives, with the value that the part is
abbrev pub giving : (List ℕ → Json) → Option (List ℕ) → Option (Json × List ℕ)
giving f None = None
giving f (Some r) = Some (f r, r)

-- a string (from the quote, 34, on), `null` ('n', 110), `true` ('t', 116), `false` ('f', 102) or a number
unfoldable pub scalar : List ℕ → Option (Json × List ℕ)
scalar xs =
    cond (eqb (head xs) 34) (giving (λ r. string (inside (tail xs) r)) (string_end (tail xs)))
    (cond (eqb (head xs) 110) (giving (λ r. null) (after (bytes "null") xs))
    (cond (eqb (head xs) 116) (giving (λ r. boolean true) (after (bytes "true") xs))
    (cond (eqb (head xs) 102) (giving (λ r. boolean false) (after (bytes "false") xs))
    (giving (λ r. number (up_to xs r)) (Token.number xs)))))

-- a value with spaces around it
unfoldable pub spaced : (List ℕ → Option (Json × List ℕ)) → List ℕ → Option (Json × List ℕ)
spaced f xs = f (skip xs) >>= λ p. Some (p.0, skip p.1)

-- values with commas (44) between them and ']' (93) after them, at most n, each read by f
unfoldable pub items : (List ℕ → Option (Json × List ℕ)) → ℕ → List ℕ → Option (Items × List ℕ)
items f zero xs = None
items f (suc n) xs = f xs >>= λ p.
    cond (eqb (head p.1) 93) (Some (item p.0 no_items, tail p.1))
    (cond (eqb (head p.1) 44) (items f n (tail p.1) >>= λ q. Some (item p.0 q.0, q.1)) None)

-- past a '['
unfoldable pub array_end : (List ℕ → Option (Json × List ℕ)) → List ℕ → Option (Json × List ℕ)
array_end f xs =
    cond (eqb (head (skip xs)) 93) (Some (array no_items, tail (skip xs)))
    (items f (length xs) xs >>= λ p. Some (array p.0, p.1))

-- a key and its colon (58), with spaces before either: the bytes between the quotes
unfoldable pub key : List ℕ → Option (List ℕ × List ℕ)
key xs =
    cond (eqb (head (skip xs)) 34)
    (string_end (tail (skip xs)) >>= λ r. cond (eqb (head (skip r)) 58) (Some (inside (tail (skip xs)) r, tail (skip r))) None)
    None

-- keys and values with commas between them and '}' (125) after them, at most n, each value read by f
unfoldable pub members : (List ℕ → Option (Json × List ℕ)) → ℕ → List ℕ → Option (Members × List ℕ)
members f zero xs = None
members f (suc n) xs = key xs >>= λ k. f k.1 >>= λ p.
    cond (eqb (head p.1) 125) (Some (member k.0 p.0 no_members, tail p.1))
    (cond (eqb (head p.1) 44) (members f n (tail p.1) >>= λ q. Some (member k.0 p.0 q.0, q.1)) None)

-- past a '{'
unfoldable pub object_end : (List ℕ → Option (Json × List ℕ)) → List ℕ → Option (Json × List ℕ)
object_end f xs =
    cond (eqb (head (skip xs)) 125) (Some (object no_members, tail (skip xs)))
    (members f (length xs) xs >>= λ p. Some (object p.0, p.1))

-- a value with no space before it, of at most d levels of arrays ('[', 91) and objects ('{', 123) [V-1, V-3]
unfoldable pub bare : ℕ → List ℕ → Option (Json × List ℕ)
bare zero xs = scalar xs
bare (suc d) xs =
    cond (eqb (head xs) 91) (array_end (spaced (bare d)) (tail xs))
    (cond (eqb (head xs) 123) (object_end (spaced (bare d)) (tail xs)) (scalar xs))

abbrev pub value : ℕ → List ℕ → Option (Json × List ℕ)
value d = spaced (bare d)

-- a whole text: one value and nothing after it. "JSON nested more than 8 levels ..": the value is read with 8 levels left, no reader takes a byte
-- outside 32 to 126, and spaces alone are no value [V-1, V-3]
unfoldable pub text : List ℕ → Option Json
text s = value 8 s >>= λ p. cond (eqb (length p.1) 0) (Some p.0) None

-- ## Compact text: no space outside strings

-- a string's bytes between quotes
unfoldable pub quoted : List ℕ → List ℕ
quoted s = 34 ∷ s ++ (34 ∷ [])

unfoldable mutual
  -- numbers and strings keep their spelling [V-19]
  pub compact : Json → List ℕ
  compact null = bytes "null"
  compact (boolean b) = cond b (bytes "true") (bytes "false")
  compact (number t) = t
  compact (string s) = quoted s
  compact (array is) = bytes "[" ++ compact_items is ++ bytes "]"
  compact (object ms) = bytes "{" ++ compact_members ms ++ bytes "}"

  pub compact_items : Items → List ℕ
  compact_items no_items = []
  compact_items (item v is) = compact v ++ more_items is

  -- the items after the first
  pub more_items : Items → List ℕ
  more_items no_items = []
  more_items (item v is) = bytes "," ++ compact v ++ more_items is

  pub compact_members : Members → List ℕ
  compact_members no_members = []
  compact_members (member k v ms) = quoted k ++ bytes ":" ++ compact v ++ more_members ms

  pub more_members : Members → List ℕ
  more_members no_members = []
  more_members (member k v ms) = bytes "," ++ quoted k ++ bytes ":" ++ compact v ++ more_members ms
