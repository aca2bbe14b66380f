-- What bytes that come in, a line's end, and other active modules leave of a client. Assumes nothing.
use Prim.Native.Nat.{ℕ}
use mathlib.Core.Bool.{Bool, true, false≢true}
use mathlib.Core.List.{List, [], ◌∷◌}
use mathlib.Core.Path.{◌≡◌, refl}
use Rattle.message.specs.Line.{whole, with_byte}
use Rattle.plain.specs.Node.{Client, closed, connected, is_open, line_of, is_active, receive, emptied, activated}

-- whoever has a module active is open
pub active_open : (x : Client) (i : ℕ) → is_active x i ≡ true → is_open x ≡ true
unfolding is_active is_open
active_open closed i e = e
active_open (connected l a) i e = refl

-- ## Bytes that come in

pub receive_open : (x : Client) (bs : List ℕ) → is_open (receive x bs) ≡ is_open x
unfolding receive is_open
receive_open x [] = refl
receive_open closed (b ∷ bs) = refl
receive_open (connected l a) (b ∷ bs) = receive_open (connected (with_byte l b) a) bs

pub receive_active : (x : Client) (bs : List ℕ) (i : ℕ) → is_active (receive x bs) i ≡ is_active x i
unfolding receive is_active
receive_active x [] i = refl
receive_active closed (b ∷ bs) i = refl
receive_active (connected l a) (b ∷ bs) i = receive_active (connected (with_byte l b) a) bs i

-- one byte, and then the others
pub receive_more : (x : Client) (b : ℕ) (bs : List ℕ) → receive x (b ∷ bs) ≡ receive (receive x (b ∷ [])) bs
unfolding receive
receive_more closed b [] = refl
receive_more closed b (v ∷ bs) = refl
receive_more (connected l a) b bs = refl

-- ## A line's end

pub emptied_received : (x : Client) (bs : List ℕ) → emptied (receive x bs) ≡ emptied x
unfolding receive emptied
emptied_received x [] = refl
emptied_received closed (b ∷ bs) = refl
emptied_received (connected l a) (b ∷ bs) = emptied_received (connected (with_byte l b) a) bs

pub emptied_open : (x : Client) → is_open (emptied x) ≡ is_open x
unfolding emptied is_open
emptied_open closed = refl
emptied_open (connected l a) = refl

pub emptied_active : (x : Client) (i : ℕ) → is_active (emptied x) i ≡ is_active x i
unfolding emptied is_active
emptied_active closed i = refl
emptied_active (connected l a) i = refl

pub emptied_line : (x : Client) → line_of (emptied x) ≡ whole []
unfolding emptied line_of
emptied_line closed = refl
emptied_line (connected l a) = refl

-- ## Other active modules

pub activated_open : (f : ℕ → Bool) (x : Client) → is_open (activated f x) ≡ is_open x
unfolding activated is_open
activated_open f closed = refl
activated_open f (connected l a) = refl

pub activated_line : (f : ℕ → Bool) (x : Client) → line_of (activated f x) ≡ line_of x
unfolding activated line_of
activated_line f closed = refl
activated_line f (connected l a) = refl

pub activated_active : (f : ℕ → Bool) (x : Client) (i : ℕ) → is_open x ≡ true → is_active (activated f x) i ≡ f i
unfolding activated is_active is_open
activated_active f closed i e = absurd (false≢true e)
activated_active f (connected l a) i e = refl
