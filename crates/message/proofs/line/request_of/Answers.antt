-- `message::line::request_of` meets its contract. Assumes nothing.
use Rattle.message.proofs.Requests.{asks_identify, asks_describe, asks_ping, asks_scoped, asks_named, asks_count, asks_nothing}
use Rattle.message.proofs.line.request_of.Goals as goal

pub returns-in-Identify : goal.returns-in-Identify
returns-in-Identify c = search asks_identify

pub returns-in-Describe : goal.returns-in-Describe
returns-in-Describe c = search asks_describe

pub returns-in-Ping : goal.returns-in-Ping
returns-in-Ping c = search asks_ping

pub returns-in-Scoped : goal.returns-in-Scoped
returns-in-Scoped c = search asks_scoped

pub returns-in-Named : goal.returns-in-Named
returns-in-Named c = search asks_named

pub returns-in-Count : goal.returns-in-Count
returns-in-Count c = search asks_count

pub returns-in-Unknown : goal.returns-in-Unknown
returns-in-Unknown c = search asks_nothing
