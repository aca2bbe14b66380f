-- Lines as they come in: they stay within their limit, and their parts are words. Assumes nothing.
use Rattle.std.specs.Prelude.{Option, Some, None}
use Prim.Native.Nat.{ℕ, suc, ◌≤◌}
use mathlib.Core.Bool.{Bool, true, false, cond, not, ◌&&◌}
use mathlib.Core.List.{List, [], ◌∷◌}
use mathlib.Core.Path.{◌≡◌, refl}
use native.Mathlib.Omega.{arith}
use lib.Dec.{ltb, eqb}
use lib.ListN.{length, length-append, length-drop}
use borrow.Author.Tests.{ltb-true}
use Rattle.ascii.specs.Text.{bytes}
use Rattle.ascii.specs.Bytes.{all, take_while, drop_while, tail, same, is_printable, is_space}
use Rattle.ascii.specs.Names.{is_name}
use Rattle.ascii.proofs.Lists.{both, all_one, all_append}
use Rattle.message.specs.Line.{Line, whole, overlong, with_byte, without_return, printable, content, Parts, before_space, after_space, parts_of}
use Rattle.message.specs.Request.{Request, identify, describe, ping, activate, deactivate, read, change, execute, count, malformed, module_part, accessible_part, scoped, named, or_null, request, check}
use Rattle.outbox.specs.Theorems.{Word, Named}
use Rattle.table.specs.Table.{Table}
use Rattle.plain.specs.Node.{Client, closed, connected, receive}
use Rattle.plain.specs.Calls.{before_feed}
use Rattle.sound.specs.Theorems.{LineHeld, ClientHeld}
use Rattle.sound.proofs.Lists.{either, all_take_while}

-- ## Bytes that come in

abbrev pub no_feed : ℕ → Bool
no_feed b = not (eqb b 10)

pub before_feed_lem : (bs : List ℕ) → all no_feed (before_feed bs) ≡ true
unfolding before_feed all
before_feed_lem [] = refl
before_feed_lem (b ∷ bs) = go (eqb b 10) refl (before_feed_lem bs)
  where
    go : (t : Bool) → eqb b 10 ≡ t → all no_feed (before_feed bs) ≡ true → all no_feed (cond t [] (b ∷ before_feed bs)) ≡ true
    go true e h = refl
    go false e h = rw (e, all) h

with_byte_held : (l : Line) (b : ℕ) → no_feed b ≡ true → LineHeld l → LineHeld (with_byte l b)
unfolding with_byte
with_byte_held overlong b e h = tt
with_byte_held (whole xs) b e h =
    let f = all_append no_feed xs (b ∷ []) h.1 (all_one no_feed b e) in
    either LineHeld (ltb (length xs) 1024) (λ q. (simp length-append (omega (arith, ltb-true (length xs) 1024 q)), f)) (λ q. tt)

pub received : (w : Table) (x : Client) (bs : List ℕ) → all no_feed bs ≡ true → ClientHeld w x → ClientHeld w (receive x bs)
unfolding receive all
received w x [] e h = h
received w closed (b ∷ bs) e h = tt
received w (connected l a) (b ∷ bs) e h =
    let i = both (no_feed b) (all no_feed bs) e in
    received w (connected (with_byte l b) a) bs i.1 (with_byte_held l b i.0 h.0, h.1)

-- ## A line's parts

without_return_lem : (xs : List ℕ) → length (without_return xs) ≤ length xs
unfolding without_return
without_return_lem [] = omega arith
without_return_lem (b ∷ []) = either (λ (l : List ℕ). length l ≤ 1) (eqb b 13) (λ e. omega arith) (λ e. omega arith)
without_return_lem (b ∷ c ∷ bs) = omega (arith, without_return_lem (c ∷ bs))

pub content_short : (l : Line) → LineHeld l → length (content l) ≤ 1024
unfolding content printable
content_short overlong h = omega arith
content_short (whole xs) h =
    either (λ (l : List ℕ). length l ≤ 1024) (all is_printable (without_return xs))
    (λ e. omega (arith, without_return_lem xs)) (λ e. omega arith)

module _ (p : ℕ → Bool) where
  take_short : (xs : List ℕ) → length (take_while p xs) ≤ length xs
  unfolding take_while
  take_short [] = omega arith
  take_short (x ∷ xs) =
      let h = take_short xs in
      either (λ (l : List ℕ). length l ≤ suc (length xs)) (p x) (λ e. omega arith) (λ e. omega arith)

  drop_short : (xs : List ℕ) → length (drop_while p xs) ≤ length xs
  unfolding drop_while
  drop_short [] = omega arith
  drop_short (x ∷ xs) =
      let h = drop_short xs in
      either (λ (l : List ℕ). length l ≤ suc (length xs)) (p x) (λ e. omega arith) (λ e. omega arith)

-- a part that is a word, and at most 1,024 bytes
abbrev pub ShortWord : List ℕ → Type 0
ShortWord xs = Word xs × (length xs ≤ 1024)

before_word : (xs : List ℕ) → length xs ≤ 1024 → ShortWord (before_space xs)
unfolding before_space
before_word xs h =
    let p : ℕ → Bool = λ b. not (is_space b) in
    (all_take_while p xs, omega (arith, take_short p xs))

after_short : (xs : List ℕ) → length xs ≤ 1024 → length (after_space xs) ≤ 1024
unfolding after_space tail
after_short xs h = let p : ℕ → Bool = λ b. not (is_space b) in rw length-drop (omega (arith, drop_short p xs))

pub parts_words : (xs : List ℕ) → length xs ≤ 1024 → ShortWord (parts_of xs).action × ShortWord (parts_of xs).specifier
unfolding parts_of
parts_words xs h = (before_word xs h, before_word (after_space xs) (after_short xs h))

-- ## What a line asks for: names are names, and a token is a word

abbrev pub Asked : Request → Type 0
Asked identify = Unit {0}
Asked describe = Unit {0}
Asked (ping token) = ShortWord token
Asked (activate m) = Named m
Asked (deactivate m) = Named m
Asked (read m a) = Unit {0}
Asked (change m a v) = Unit {0}
Asked (execute m a v) = Unit {0}
Asked (check m a v) = Unit {0}
Asked count = Unit {0}
Asked malformed = Unit {0}

asked_scoped : (f : Option (List ℕ) → Request) → ((m : Option (List ℕ)) → Named m → Asked (f m)) → (s : List ℕ)
    → Asked (scoped f s)
unfolding scoped
asked_scoped f g s =
    either Asked (eqb (length s) 0) (λ e. g None tt)
    λ e. either Asked (is_name (module_part s)) (λ q. g (Some (module_part s)) q) (λ q. tt)

asked_named : (f : List ℕ → List ℕ → Request) → ((m a : List ℕ) → Asked (f m a)) → (s : List ℕ) → Asked (named f s)
unfolding named
asked_named f g s =
    either Asked (is_name (module_part s) && is_name (accessible_part s)) (λ e. g (module_part s) (accessible_part s)) (λ e. tt)

pub asked : (p : Parts) → ShortWord p.specifier → Asked (request p)
unfolding request
asked p h =
    let is : (w : List ℕ) → Bool = λ w. same p.action w in
    let s = p.specifier in
    either Asked (is (bytes "*IDN?")) (λ e. tt) λ e.
    either Asked (is (bytes "describe")) (λ e. tt) λ e.
    either Asked (is (bytes "ping")) (λ e. h) λ e.
    either Asked (is (bytes "activate")) (λ e. asked_scoped activate (λ m k. k) s) λ e.
    either Asked (is (bytes "deactivate")) (λ e. asked_scoped deactivate (λ m k. k) s) λ e.
    either Asked (is (bytes "read")) (λ e. asked_named read (λ m a. tt) s) λ e.
    either Asked (is (bytes "change")) (λ e. asked_named (λ m a. change m a (or_null p.payload)) (λ m a. tt) s) λ e.
    either Asked (is (bytes "do")) (λ e. asked_named (λ m a. execute m a (or_null p.payload)) (λ m a. tt) s) λ e.
    either Asked (is (bytes "check")) (λ e. asked_named (λ m a. check m a (or_null p.payload)) (λ m a. tt) s) λ e.
    either Asked (is (bytes "_count")) (λ e. tt) λ e. tt
