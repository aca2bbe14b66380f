-- What the code that takes a line apart answers: a part of a line stands for the bytes between its positions. Assumes nothing.
use Rattle.std.specs.Prelude.{ℕ, ◌≤◌, ◌+◌, ◌-◌, ◌<◌, ◌≡◌, cond, not, List, [], eqb, length, take, drop, Option, Some, None}
use Rattle.ascii.specs.Text.{bytes}
use Rattle.ascii.specs.Bytes.{take_while, drop_while, tail, same}
use Rattle.message.specs.Line.{Parts, content, whole, after_space, parts_of}
use Rattle.message.specs.Request as R
use Rattle.message.specs.Request.{scoped, named, or_null, request}
use Rattle.message.specs.declared.line.Part.{Part}
use Rattle.message.specs.declared.line.Cut.{Cut}
use Rattle.message.specs.declared.line.Line.{Line}
use Rattle.message.specs.declared.line.Switch.{Switch}
use Rattle.message.specs.declared.line.Switch.TheVariants.{On, Off}
use Rattle.message.specs.declared.line.Verb.{Verb}
use Rattle.message.specs.declared.line.Action.{Action}
use Rattle.message.specs.declared.line.Action.TheVariants.{Identify, Describe, Ping, Scoped, Named, Count, Unknown}
use Rattle.message.specs.declared.line.Request.{Request}
use Rattle.message.specs.declared.line.Request.TheVariants as Q

-- ## Parts

-- the bytes of a part
abbrev pub part : List ℕ → Part → List ℕ
part xs p = take (p.to - p.from) (drop p.from xs)

-- a part that stands within a line
pub record Within (xs : List ℕ) (p : Part) : Type 0 where
  pub ordered : p.from ≤ p.to
  pub within : p.to ≤ length xs

-- the bytes of s up to position r are xs
pub record UpTo (s : List ℕ) (r : ℕ) (xs : List ℕ) : Type 0 where
  pub is : take r s ≡ xs
  pub within : r ≤ length s

-- the bytes before the first byte `stop`, from it on, and after it
unfoldable pub before : ℕ → List ℕ → List ℕ
before stop xs = take_while (λ b. not (eqb b stop)) xs

unfoldable pub from_stop : ℕ → List ℕ → List ℕ
from_stop stop xs = drop_while (λ b. not (eqb b stop)) xs

unfoldable pub after : ℕ → List ℕ → List ℕ
after stop xs = tail (from_stop stop xs)

-- r is the position of the first `stop` of s, from a position on, or the end
pub record Stops (s : List ℕ) (from stop r : ℕ) : Type 0 where
  pub is : from_stop stop (drop from s) ≡ drop r s
  pub low : from ≤ r
  pub high : r ≤ length s

-- r is the position after the byte at a position, or the end
pub record Goes (s : List ℕ) (at r : ℕ) : Type 0 where
  pub is : tail (drop at s) ≡ drop r s
  pub low : at ≤ r
  pub high : r ≤ length s

-- a part cut at the first and the second `stop`; each piece begins so that what it begins ends where the part ends
pub record Cuts (xs : List ℕ) (p : Part) (stop : ℕ) (r : Cut) : Type 0 where
  pub first : part xs r.first ≡ before stop (part xs p)
  pub second : part xs r.second ≡ before stop (after stop (part xs p))
  pub rest : part xs r.rest ≡ after stop (after stop (part xs p))
  pub first_in : Within xs r.first
  pub second_in : Within xs r.second
  pub rest_in : Within xs r.rest
  pub first_at : r.first.from ≡ p.from
  pub second_at : r.second.from + length (after stop (part xs p)) ≡ p.to
  pub rest_at : r.rest.from + length (after stop (after stop (part xs p))) ≡ p.to

-- the three parts of a line that has content: the action begins with it, the specifier after the first space and the data after the second,
-- or where the content ends
pub record Parted (xs : List ℕ) (action specifier payload : Part) : Type 0 where
  pub some : 0 < length (content (whole xs))
  pub action_is : part xs action ≡ (parts_of (content (whole xs))).action
  pub specifier_is : part xs specifier ≡ (parts_of (content (whole xs))).specifier
  pub payload_is : part xs payload ≡ (parts_of (content (whole xs))).payload
  pub action_in : Within xs action
  pub specifier_in : Within xs specifier
  pub payload_in : Within xs payload
  pub action_at : action.from ≡ 0
  pub specifier_at : specifier.from + length (after_space (content (whole xs))) ≡ length (content (whole xs))
  pub payload_at : payload.from + length (after_space (after_space (content (whole xs)))) ≡ length (content (whole xs))

-- a line without content has no parts
abbrev pub Parses : List ℕ → Option Line → Type 0
Parses xs None = content (whole xs) ≡ []
Parses xs (Some l) = Parted xs l.action l.specifier l.payload

-- ## Requests

-- the word that an action is, in the order of `request`
unfoldable pub action_of : List ℕ → Action
action_of xs =
    cond (same xs (bytes "*IDN?")) Identify
    (cond (same xs (bytes "describe")) Describe
    (cond (same xs (bytes "ping")) Ping
    (cond (same xs (bytes "activate")) (Scoped On)
    (cond (same xs (bytes "deactivate")) (Scoped Off)
    (cond (same xs (bytes "read")) (Named Verb.Read)
    (cond (same xs (bytes "change")) (Named Verb.Change)
    (cond (same xs (bytes "do")) (Named Verb.Execute)
    (cond (same xs (bytes "check")) (Named Verb.Check)
    (cond (same xs (bytes "_count")) Count
    Unknown)))))))))

-- the requests on modules, and on accessibles with the data x
abbrev pub switch_request : Switch → Option (List ℕ) → R.Request
switch_request On = R.activate
switch_request Off = R.deactivate

abbrev pub verb_request : Verb → List ℕ → List ℕ → List ℕ → R.Request
verb_request Verb.Read x m a = R.read m a
verb_request Verb.Change x m a = R.change m a x
verb_request Verb.Execute x m a = R.execute m a x
verb_request Verb.Check x m a = R.check m a x

-- what the code's answer stands for, on a line xs with the specifier s and the data x
abbrev pub meaning : List ℕ → List ℕ → List ℕ → Request → R.Request
meaning xs s x Q.Identify = R.identify
meaning xs s x Q.Describe = R.describe
meaning xs s x Q.Ping = R.ping s
meaning xs s x (Q.All v) = switch_request v None
meaning xs s x (Q.Scoped v m) = switch_request v (Some (part xs m))
meaning xs s x (Q.Named v m a) = verb_request v (or_null x) (part xs m) (part xs a)
meaning xs s x Q.Count = R.count
meaning xs s x Q.Malformed = R.malformed

-- the names of a request stand within the line
abbrev pub Inside : List ℕ → Request → Type 0
Inside xs Q.Identify = Unit
Inside xs Q.Describe = Unit
Inside xs Q.Ping = Unit
Inside xs (Q.All v) = Unit
Inside xs (Q.Scoped v m) = Within xs m
Inside xs (Q.Named v m a) = (Within xs m) × (Within xs a)
Inside xs Q.Count = Unit
Inside xs Q.Malformed = Unit

-- the module's name begins with the specifier s, the accessible's after its first `:` (58): what begins there ends with the specifier
pub record NamedIn (xs : List ℕ) (s m a : Part) : Type 0 where
  pub module_at : m.from ≡ s.from
  pub accessible_at : a.from + length (after 58 (part xs s)) ≡ s.to

-- where the names of a request begin, in the specifier s
abbrev pub Begin : List ℕ → Part → Request → Type 0
Begin xs s Q.Identify = Unit
Begin xs s Q.Describe = Unit
Begin xs s Q.Ping = Unit
Begin xs s (Q.All v) = Unit
Begin xs s (Q.Scoped v m) = m.from ≡ s.from
Begin xs s (Q.Named v m a) = NamedIn xs s m a
Begin xs s Q.Count = Unit
Begin xs s Q.Malformed = Unit

-- a line's parts, with the data x
abbrev pub parts : List ℕ → Part → Part → List ℕ → Parts
parts xs a s x = record { action = part xs a; specifier = part xs s; payload = x }

-- the answer r, on a line xs, stands for what a specifier asks of modules, whatever the data is
pub record AsksScoped (xs : List ℕ) (specifier : Part) (v : Switch) (r : Request) : Type 0 where
  pub is : (x : List ℕ) → meaning xs (part xs specifier) x r ≡ scoped (switch_request v) (part xs specifier)
  pub inside : Inside xs r
  pub begin : Begin xs specifier r

-- the same of accessibles
pub record AsksNamed (xs : List ℕ) (specifier : Part) (v : Verb) (r : Request) : Type 0 where
  pub is : (x : List ℕ) → meaning xs (part xs specifier) x r ≡ named (verb_request v (or_null x)) (part xs specifier)
  pub inside : Inside xs r
  pub begin : Begin xs specifier r

-- the answer r stands for what the line's action and specifier ask for, whatever the data is
pub record Asks (xs : List ℕ) (action specifier : Part) (r : Request) : Type 0 where
  pub is : (x : List ℕ) → meaning xs (part xs specifier) x r ≡ request (parts xs action specifier x)
  pub inside : Inside xs r
  pub begin : Begin xs specifier r
