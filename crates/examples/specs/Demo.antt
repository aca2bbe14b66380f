-- The tables of document 01's examples, as bytes. Assumes nothing.
use Rattle.std.specs.Prelude.{ℕ, List, [], ◌∷◌, ◌++◌, length}
use Prim.Native.String.{String}
use Rattle.ascii.specs.Text.{bytes}
use Rattle.ascii.specs.Numbers.{two_bytes}

-- a name or a text: a length byte and that many bytes
unfoldable pub counted : String → List ℕ
counted s = length (bytes s) ∷ bytes s

-- an i64 below 65,536, not negative
unfoldable pub small : ℕ → List ℕ
small n = 0 ∷ 0 ∷ 0 ∷ 0 ∷ 0 ∷ 0 ∷ two_bytes n

-- a value and its length
unfoldable pub initial : String → List ℕ
initial s = two_bytes (length (bytes s)) ++ bytes s

-- double 0 to 300
unfoldable pub kelvin : List ℕ
kelvin = (1 ∷ []) ++ small 0 ++ (0 ∷ []) ++ small 300 ++ (0 ∷ [])

-- enum off 0, on 1
unfoldable pub on_off : List ℕ
on_off = (4 ∷ 2 ∷ []) ++ counted "off" ++ (0 ∷ 0 ∷ 0 ∷ 0 ∷ []) ++ counted "on" ++ (0 ∷ 0 ∷ 0 ∷ 1 ∷ [])

-- the node, with some bytes before the module and some after it
unfoldable pub around : List ℕ → List ℕ → List ℕ
around front rest =
    bytes "ND" ++ counted "demo" ++ counted "one stage" ++ front ++ bytes "MO" ++ counted "t1" ++ counted "stage" ++ rest ++ bytes "EN"

unfoldable pub one_module : List ℕ → List ℕ
one_module rest = around [] rest

-- the accessibles of document 01's whole report
unfoldable pub reported : List ℕ
reported =
    bytes "PA"
    ++ counted "value"
    ++ counted "reading"
    ++ (1 ∷ [])
    ++ kelvin
    ++ initial "0"
    ++ bytes "PA"
    ++ counted "mode"
    ++ counted "heater"
    ++ (0 ∷ [])
    ++ on_off
    ++ initial "0"
    ++ bytes "CM"
    ++ counted "stop"
    ++ counted "stop"
    ++ (0 ∷ [])

-- the table of the whole report
unfoldable pub demo : List ℕ
demo = one_module reported

-- the same with a note
unfoldable pub noted : List ℕ
noted = one_module (bytes "NO" ++ counted "mind the gap" ++ reported)

-- the parameters of the outbox example: target is parameter 1
unfoldable pub value_and_target : List ℕ
value_and_target =
    bytes "PA"
    ++ counted "value"
    ++ counted "reading"
    ++ (1 ∷ [])
    ++ kelvin
    ++ initial "295.13"
    ++ bytes "PA"
    ++ counted "target"
    ++ counted "set point"
    ++ (0 ∷ [])
    ++ kelvin
    ++ initial "0"

-- and its command
unfoldable pub staged : List ℕ
staged = value_and_target ++ bytes "CM" ++ counted "stop" ++ counted "stop" ++ (0 ∷ [])

-- the table of the outbox example
unfoldable pub stage : List ℕ
stage = one_module staged

-- the same with a readonly status, parameter 2: an enum's number and a string of as many characters as is said
unfoldable pub ramp : ℕ → List ℕ
ramp most =
    one_module
    (value_and_target
    ++ bytes "PA"
    ++ counted "status"
    ++ counted "state"
    ++ (1 ∷ 7 ∷ 2 ∷ 4 ∷ 2 ∷ [])
    ++ counted "idle"
    ++ (0 ∷ 0 ∷ 0 ∷ 100 ∷ [])
    ++ counted "busy"
    ++ (0 ∷ 0 ∷ 1 ∷ 44 ∷ [])
    ++ (5 ∷ 0 ∷ 0 ∷ 0 ∷ most ∷ [])
    ++ initial "[100,\"\"]")

-- the table of the outbox example with an edition (M-107)
unfoldable pub edited : List ℕ
edited = around (bytes "ED" ++ counted "ISSE,SECoP,V2021-02-17,v2.0") staged

-- int 0 to 100
unfoldable pub percent : List ℕ
percent = (2 ∷ []) ++ small 0 ++ small 100

-- five settings of a heater (M-113), all optional but the mode, in a table with an edition
unfoldable pub heated : List ℕ
heated =
    around (bytes "ED" ++ counted "ISSE,SECoP,x")
    (bytes "PA"
    ++ counted "heater"
    ++ counted "settings"
    ++ (0 ∷ 11 ∷ 5 ∷ [])
    ++ (0 ∷ [])
    ++ counted "mode"
    ++ on_off
    ++ (1 ∷ [])
    ++ counted "p"
    ++ percent
    ++ (1 ∷ [])
    ++ counted "i"
    ++ percent
    ++ (1 ∷ [])
    ++ counted "limit"
    ++ kelvin
    ++ (1 ∷ [])
    ++ counted "name"
    ++ (5 ∷ 0 ∷ 0 ∷ 0 ∷ 8 ∷ [])
    ++ initial "{\"mode\":0,\"p\":20,\"i\":3,\"limit\":300,\"name\":\"a b\"}")
