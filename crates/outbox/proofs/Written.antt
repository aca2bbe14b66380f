-- Laws of records that are written part by part: each part has room, and together they are the record. Assumes nothing.
use Rattle.std.specs.Prelude.{Some}
use Prim.Native.Nat.{ℕ, ◌+◌, ◌/◌, ◌%◌, ◌≤◌, ◌<◌}
use native.Mathlib.Omega.{arith}
use mathlib.Core.Path.{◌≡◌, sym, ap, ◌∙◌}
use mathlib.Core.List.{List, [], ◌∷◌, ◌++◌, append_assoc}
use lib.ListN.{length, length-append}
use Rattle.ascii.specs.Text.{bytes}
use Rattle.ascii.specs.Numbers.{two_bytes}
use Rattle.ascii.specs.Clauses.Writer.{Puts}
use Rattle.ascii.proofs.Puts.{puts_length, puts_both}
use Rattle.message.specs.Error.{Denial}
use Rattle.message.specs.Reply.{Held, DataReport, Reply, describing, reply_line, update_line, error, optionally, report_text}
use Rattle.message.specs.Clauses.Said.{report_of}
use Rattle.message.proofs.Said.{two_1, two_2, error_length, report_length}
use Rattle.outbox.specs.Outbox.{Record, final, update, mark, client, body, encode}
use Rattle.outbox.specs.Clauses.Written.{sealed, Room, LineRoom, RoomFor, describing_start}

-- ## The header

module _ (d m : List ℕ) (at c n : ℕ) where
  module _ (h : at + length (m ++ (c ∷ two_bytes n)) ≤ length d) where
    pub header_1 : at + length m ≤ length d
    header_1 = two_1 d m (c ∷ two_bytes n) at h

    module _ (e : List ℕ) (p : ℕ) (x : Puts d at m e p) where
      three : p + 3 ≤ length e
      unfolding two_bytes
      three = two_2 d m (c ∷ two_bytes n) at h e p x

      pub header_2 : p < length e
      header_2 = let t = three in omega arith

      pub header_3 : (f : List ℕ) (q : ℕ) → Puts e p (c ∷ []) f q → q + 2 ≤ length f
      header_3 f q y =
          let t = three in
          let l = puts_length y in
          let s = y.ends in
          omega arith

  pub header_all :
      (e f g : List ℕ) (p q r : ℕ) → n ≤ 65535 → Puts d at m e p → Puts e p (c ∷ []) f q → Puts f q (n / 256 % 256 ∷ n % 256 ∷ []) g r
      → Puts d at (m ++ (c ∷ two_bytes n)) g r
  unfolding two_bytes
  header_all e f g p q r h x y z =
      let k : n / 256 % 256 ≡ n / 256 = omega arith in
      puts_both x (puts_both y (rw k at z))

-- ## A record with its body, of which n is the length

module _ (d : List ℕ) (at : ℕ) (m : List ℕ) (c : ℕ) (b : List ℕ) (n : ℕ) (s : n ≡ length b) where
  module _ (h : Room d at m c b) where
    all : at + length (m ++ (c ∷ two_bytes n) ++ b) ≤ length d
    unfolding sealed
    all = rw s h.fits

    sealed_0 : n ≤ 65535
    sealed_0 = rw s h.short

    sealed_1 : at + length (m ++ (c ∷ two_bytes n)) ≤ length d
    sealed_1 = two_1 d (m ++ (c ∷ two_bytes n)) b at all

    sealed_2 : (e : List ℕ) (p : ℕ) → Puts d at (m ++ (c ∷ two_bytes n)) e p → p + length b ≤ length e
    sealed_2 e p x = two_2 d (m ++ (c ∷ two_bytes n)) b at all e p x

  sealed_all : (e f : List ℕ) (p q : ℕ) → Puts d at (m ++ (c ∷ two_bytes n)) e p → Puts e p b f q → Puts d at (sealed m c b) f q
  unfolding sealed
  sealed_all e f p q x y = rw (← s) (puts_both x y)

-- ## A line with its line feed, of which k is the line's length

module _ (d : List ℕ) (at : ℕ) (m : List ℕ) (c : ℕ) (l : List ℕ) (k : ℕ) (s : k ≡ length l) where
  size : k + 1 ≡ length (l ++ bytes "\n")
  unfolding bytes
  size = simp length-append (omega arith)

  module _ (h : LineRoom d at m c l) where
    room : Room d at m c (l ++ bytes "\n")
    room =
        let i = size in
        let j = h.short in
        record { fits = h.fits; short = omega arith }

    pub line_0 : k + 1 ≤ 65535
    line_0 = sealed_0 d at m c (l ++ bytes "\n") (k + 1) size room

    pub line_1 : at + length (m ++ (c ∷ two_bytes (k + 1))) ≤ length d
    line_1 = sealed_1 d at m c (l ++ bytes "\n") (k + 1) size room

    module _ (e : List ℕ) (p : ℕ) (x : Puts d at (m ++ (c ∷ two_bytes (k + 1))) e p) where
      pub line_2 : p + length l ≤ length e
      line_2 = two_1 e l (bytes "\n") p (sealed_2 d at m c (l ++ bytes "\n") (k + 1) size room e p x)

      pub line_3 : (f : List ℕ) (q : ℕ) → Puts e p l f q → q < length f
      unfolding bytes
      line_3 f q y = let t = two_2 e l (bytes "\n") p (sealed_2 d at m c (l ++ bytes "\n") (k + 1) size room e p x) f q y in omega arith

  pub line_all :
      (e f g : List ℕ) (p q r : ℕ) → Puts d at (m ++ (c ∷ two_bytes (k + 1))) e p → Puts e p l f q → Puts f q (bytes "\n") g r
      → Puts d at (sealed m c (l ++ bytes "\n")) g r
  line_all e f g p q r x y z = sealed_all d at m c (l ++ bytes "\n") (k + 1) size e g p r x (puts_both y z)

-- ## An order

module _ (d : List ℕ) (at : ℕ) (m : List ℕ) (c p : ℕ) (v : List ℕ) where
  order_size : length v + 1 ≡ length (p ∷ v)
  order_size = omega arith

  module _ (h : Room d at m c (p ∷ v)) where
    pub order_0 : length v + 1 ≤ 65535
    order_0 = sealed_0 d at m c (p ∷ v) (length v + 1) order_size h

    pub order_1 : at + length (m ++ (c ∷ two_bytes (length v + 1))) ≤ length d
    order_1 = sealed_1 d at m c (p ∷ v) (length v + 1) order_size h

    module _ (e : List ℕ) (q : ℕ) (x : Puts d at (m ++ (c ∷ two_bytes (length v + 1))) e q) where
      pub order_2 : q < length e
      order_2 = let t = sealed_2 d at m c (p ∷ v) (length v + 1) order_size h e q x in omega arith

      pub order_3 : (f : List ℕ) (r : ℕ) → Puts e q (p ∷ []) f r → r + length v ≤ length f
      order_3 f r y = two_2 e (p ∷ []) v q (sealed_2 d at m c (p ∷ v) (length v + 1) order_size h e q x) f r y

  pub order_all :
      (e f g : List ℕ) (q r i : ℕ) → Puts d at (m ++ (c ∷ two_bytes (length v + 1))) e q → Puts e q (p ∷ []) f r → Puts f r v g i
      → Puts d at (sealed m c (p ∷ v)) g i
  order_all e f g q r i x y z = sealed_all d at m c (p ∷ v) (length v + 1) order_size e g q i x (puts_both y z)

-- ## A record of the definitions

pub room_of : (d : List ℕ) (at : ℕ) (r : Record) → RoomFor d at r → Room d at (mark r) (client r) (body r)
unfolding sealed encode
room_of d at r h = record { fits = h.fits; short = h.short }

line : (xs : List ℕ) → length (xs ++ bytes "\n") ≤ 65535 → length xs < 65535
unfolding bytes
line xs h = let l = length-append xs (bytes "\n") in omega arith

pub line_of : (d : List ℕ) (at c : ℕ) (r : Reply) → RoomFor d at (final c r) → LineRoom d at (bytes "RP") c (reply_line r)
unfolding sealed encode mark client body
line_of d at c r h = record { fits = h.fits; short = line (reply_line r) h.short }

pub line_of_update : (d : List ℕ) (at c : ℕ) (r : DataReport) → RoomFor d at (update c r) → LineRoom d at (bytes "UP") c (update_line r)
unfolding sealed encode mark client body
line_of_update d at c r h = record { fits = h.fits; short = line (update_line r) h.short }

module _ (d : List ℕ) (at c : ℕ) (r : Reply) (k : ℕ) (s : k ≡ length (reply_line r)) where
  module _ (h : RoomFor d at (final c r)) where
    pub final_0 : k + 1 ≤ 65535
    final_0 = line_0 d at (bytes "RP") c (reply_line r) k s (line_of d at c r h)

    pub final_1 : at + length (bytes "RP" ++ (c ∷ two_bytes (k + 1))) ≤ length d
    final_1 = line_1 d at (bytes "RP") c (reply_line r) k s (line_of d at c r h)

    module _ (e : List ℕ) (p : ℕ) (x : Puts d at (bytes "RP" ++ (c ∷ two_bytes (k + 1))) e p) where
      pub final_2 : p + length (reply_line r) ≤ length e
      final_2 = line_2 d at (bytes "RP") c (reply_line r) k s (line_of d at c r h) e p x

      pub final_3 : (f : List ℕ) (q : ℕ) → Puts e p (reply_line r) f q → q < length f
      final_3 f q y = line_3 d at (bytes "RP") c (reply_line r) k s (line_of d at c r h) e p x f q y

  pub final_all :
      (e f g : List ℕ) (p q i : ℕ) → Puts d at (bytes "RP" ++ (c ∷ two_bytes (k + 1))) e p → Puts e p (reply_line r) f q → Puts f q (bytes "\n") g i
      → Puts d at (encode (final c r)) g i
  unfolding sealed encode mark client body
  final_all e f g p q i x y z = line_all d at (bytes "RP") c (reply_line r) k s e f g p q i x y z

-- ## What has room is short

pub error_names : (d : List ℕ) (at c : ℕ) (a s : List ℕ) (k : Denial) → RoomFor d at (final c (error a s k)) → length a + length s ≤ 65536
unfolding body
error_names d at c a s k h =
    let l = error_length a s k in
    let n = length-append (reply_line (error a s k)) (bytes "\n") in
    let i = h.short in
    omega arith

pub word_names : (d : List ℕ) (at : ℕ) (m : List ℕ) (c : ℕ) (w n : List ℕ) → LineRoom d at m c (optionally w (Some n)) → length w + length n ≤ 65536
unfolding optionally
word_names d at m c w n h =
    let i : length w + length (bytes " ") + length n < 65535 = simp length-append at h.short in
    omega arith

pub report_names :
    (d : List ℕ) (at : ℕ) (m : List ℕ) (c : ℕ) (w x a : List ℕ) (v : Held) (t : ℕ) → LineRoom d at m c (w ++ report_text (report_of x a v t))
    → length w + length x + length a ≤ 65536
report_names d at m c w x a v t h =
    let i : length w + length (report_text (report_of x a v t)) < 65535 = simp length-append at h.short in
    let k = report_length x a v t in
    omega arith

-- ## A report after its start

module _ (d : List ℕ) (at c n : ℕ) where
  pub start_1 : at + length (describing_start c n) ≤ length d → at + length (bytes "RP" ++ (c ∷ two_bytes (n + 14))) ≤ length d
  unfolding describing_start
  start_1 h = two_1 d (bytes "RP" ++ (c ∷ two_bytes (n + 14))) (bytes "describing . ") at h

  pub start_2 :
      at + length (describing_start c n) ≤ length d → (e : List ℕ) (p : ℕ) → Puts d at (bytes "RP" ++ (c ∷ two_bytes (n + 14))) e p
      → p + length (bytes "describing . ") ≤ length e
  unfolding describing_start
  start_2 h e p x = two_2 d (bytes "RP" ++ (c ∷ two_bytes (n + 14))) (bytes "describing . ") at h e p x

  pub start_all :
      (e f : List ℕ) (p q : ℕ) → Puts d at (bytes "RP" ++ (c ∷ two_bytes (n + 14))) e p → Puts e p (bytes "describing . ") f q
      → Puts d at (describing_start c n) f q
  unfolding describing_start
  start_all e f p q x y = puts_both x y

describing_size : (r : List ℕ) → length (bytes "describing . " ++ r ++ bytes "\n") ≡ length r + 14
unfolding bytes
describing_size r = simp length-append (omega arith)

pub describing_encoded : (c : ℕ) (r : List ℕ) → describing_start c (length r) ++ r ++ bytes "\n" ≡ encode (final c (describing r))
unfolding describing_start encode mark client body reply_line
describing_encoded c r =
    ap (λ (l : List ℕ). l ++ bytes "\n") (append_assoc (header (length r + 14)) (bytes "describing . ") r)
    ∙ append_assoc (header (length r + 14)) (bytes "describing . " ++ r) (bytes "\n")
    ∙ ap (λ (n : ℕ). header n ++ (bytes "describing . " ++ r ++ bytes "\n")) (sym (describing_size r))
  where
    header : ℕ → List ℕ
    header n = bytes "RP" ++ (c ∷ two_bytes n)
