-- What the code that writes lines is given, as the definitions have it. Assumes nothing.
use Rattle.std.specs.Prelude.{ℕ, List, ◌++◌, Option, Some, None}
use Rattle.ascii.specs.Text.{bytes}
use Rattle.message.specs.Error as Error
use Rattle.message.specs.Error.{fault_name}
use Rattle.message.specs.Reply.{Held, held_as, DataReport, data_report}
use Rattle.message.specs.declared.say.Class.{Class}
use Rattle.message.specs.declared.say.Class.TheVariants.{ProtocolError, NoSuchModule, NoSuchParameter, NoSuchCommand, ReadOnly}
use Rattle.message.specs.declared.say.Class.TheVariants.{BadJSON, WrongType, RangeError}
use Rattle.message.specs.declared.say.Fault.{Fault}
use Rattle.message.specs.declared.say.Fault.TheVariants.{HardwareError, CommunicationFailed, ReadFailed, OutOfRange}
use Rattle.message.specs.declared.say.Denial.{Denial}
use Rattle.message.specs.declared.say.Sensor.{Sensor}
use Rattle.message.specs.declared.say.Sensor.TheVariants.{Works, Fails}

abbrev pub class_of : Class → Error.Class
class_of ProtocolError = Error.ProtocolError
class_of NoSuchModule = Error.NoSuchModule
class_of NoSuchParameter = Error.NoSuchParameter
class_of NoSuchCommand = Error.NoSuchCommand
class_of ReadOnly = Error.ReadOnly
class_of BadJSON = Error.BadJSON
class_of WrongType = Error.WrongType
class_of RangeError = Error.RangeError

abbrev pub fault_as : Fault → Error.Fault
fault_as HardwareError = Error.HardwareError
fault_as CommunicationFailed = Error.CommunicationFailed
fault_as ReadFailed = Error.ReadFailed
fault_as OutOfRange = Error.OutOfRange

abbrev pub denial_of : Denial → Error.Denial
denial_of (Denial.Class c) = Error.class (class_of c)
denial_of (Denial.Fault f t) = Error.fault (fault_as f) t

-- why a parameter can't be read, unless it can
abbrev pub sensor_fault : Sensor → Option Error.Fault
sensor_fault Works = None
sensor_fault (Fails f) = Some (fault_as f)

-- the text of a value, unless it can't be read
abbrev pub held_by : Sensor → List ℕ → Held
held_by s v = held_as (sensor_fault s) v

abbrev pub report_of : List ℕ → List ℕ → Held → ℕ → DataReport
report_of m a h t = record { module_name = m; accessible = a; held = h; time = t }

-- what stands before the time in a report of why a parameter can't be read
unfoldable pub fault_front : Error.Fault → List ℕ
fault_front f = bytes "[\"" ++ fault_name f ++ bytes "\",\"" ++ fault_name f ++ bytes "\",{\"t\":"

-- the line that tells counts, by their text
unfoldable pub counted_text : List ℕ → ℕ → List ℕ
counted_text text now = bytes "_counted . " ++ data_report text now
