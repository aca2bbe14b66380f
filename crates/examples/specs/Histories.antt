-- Histories that the reference program generated, with the answers that it gives. Printed by it; not edited by hand. Assumes nothing.
use Rattle.std.specs.Prelude.{List, [], ◌∷◌}
use Rattle.ascii.specs.Text.{bytes}
use Rattle.plain.specs.Calls.{Open, Close, Piece, Reading, Unreadable, with_area, with_outbox, beside}
use Rattle.examples.specs.Told.{History}

unfoldable pub history_1 : History
history_1 =
    record {
      table = bytes "ND\u{1}s\0ED\u{c}ISSE,SECoP,xMO\u{2}t1\u{1}dPA\u{3}pid\0\0\u{8}\u{2}\u{1}p\u{2}\0\0\0\0\0\0\0\0\0\0\0\0\0\0\0\t\u{1}q\u{3}\0\u{10}{\"p\":1,\"q\":true}CM\u{2}go\0\u{1}\u{2}\0\0\0\0\0\0\0\0\0\0\0\0\0\0\0\tMO\u{2}mf\u{1}dPA\u{4}mode\0\0\u{4}\u{2}\u{3}off\0\0\0\0\u{2}on\0\0\0\u{1}\0\u{1}0PA\u{4}pair\0\0\u{7}\u{2}\u{3}\u{2}\0\0\0\0\0\0\0\0\0\0\0\0\0\0\0\t\0\u{8}[true,1]EN";
      area = 16384;
      time = 1000;
      start = 0;
      calls =
          with_area (Open 0 1000) 16384
          ∷ with_outbox (Piece 0 (bytes "describe .\n") 14) 16384 40000
          ∷ [];
      due =
          record { number = 0; used = 0; written = bytes ""; steps = 0 }
          ∷ record { number = 0; used = 11; written = bytes "RP\0\u{2}\u{8c}describing . {\"modules\":{\"t1\":{\"interface_classes\":[],\"description\":\"d\",\"accessibles\":{\"pid\":{\"description\":\"\",\"readonly\":false,\"datainfo\":{\"type\":\"struct\",\"members\":{\"p\":{\"type\":\"int\",\"min\":0,\"max\":9},\"q\":{\"type\":\"bool\"}}}},\"go\":{\"description\":\"\",\"datainfo\":{\"type\":\"command\",\"argument\":{\"type\":\"int\",\"min\":0,\"max\":9}}}}},\"mf\":{\"interface_classes\":[],\"description\":\"d\",\"accessibles\":{\"mode\":{\"description\":\"\",\"readonly\":false,\"datainfo\":{\"type\":\"enum\",\"members\":{\"off\":0,\"on\":1}}},\"pair\":{\"description\":\"\",\"readonly\":false,\"datainfo\":{\"type\":\"tuple\",\"members\":[{\"type\":\"bool\"},{\"type\":\"int\",\"min\":0,\"max\":9}]}}}}},\"equipment_id\":\"s\",\"description\":\"\"}\n"; steps = 0 }
          ∷ [];
    }

unfoldable pub history_2 : History
history_2 =
    record {
      table = bytes "ND\u{1}s\0MO\u{2}t1\u{1}dNO\u{1}nPA\u{4}list\0\0\u{6}\0\0\0\u{2}\u{2}\0\0\0\0\0\0\0\0\0\0\0\0\0\0\0\t\0\u{2}[]CM\u{2}go\0\u{1}\u{2}\0\0\0\0\0\0\0\0\0\0\0\0\0\0\0\tMO\u{2}mf\u{1}dCM\u{4}stop\0\0EN";
      area = 16384;
      time = 2500;
      start = 0;
      calls =
          with_area (Open 0 1000) 16384
          ∷ with_outbox (Piece 0 (bytes "activate \n") 2878) 16384 32768
          ∷ with_outbox (Piece 0 (bytes "deactivate t1\n") 4896) 16385 32768
          ∷ [];
      due =
          record { number = 0; used = 0; written = bytes ""; steps = 0 }
          ∷ record { number = 0; used = 10; written = bytes "UP\0\0 update t1:list [[],{\"t\":2.500}]\nRP\0\0\u{7}active\n"; steps = 0 }
          ∷ record { number = 0; used = 14; written = bytes "RP\0\0\u{c}inactive t1\n"; steps = 0 }
          ∷ [];
    }

unfoldable pub history_3 : History
history_3 =
    record {
      table = bytes "ND\u{1}s\0MO\u{2}t1\u{1}dNO\u{1}nPA\u{3}pid\0\0\u{8}\u{2}\u{1}p\u{2}\0\0\0\0\0\0\0\0\0\0\0\0\0\0\0\t\u{1}q\u{3}\0\u{10}{\"p\":1,\"q\":true}MO\u{2}mf\u{1}dPA\u{5}label\0\0\u{5}\0\0\0\u{8}\0\u{4}\"ok\"CM\u{4}stop\0\0PA\u{4}pair\0\0\u{7}\u{2}\u{3}\u{2}\0\0\0\0\0\0\0\0\0\0\0\0\0\0\0\t\0\u{8}[true,1]PA\u{4}mode\0\0\u{4}\u{2}\u{3}off\0\0\0\0\u{2}on\0\0\0\u{1}\0\u{1}0EN";
      area = 20000;
      time = 1505396349511;
      start = 0;
      calls =
          with_area (Open 0 1000) 16384
          ∷ with_area (Open 3 1000) 16384
          ∷ with_outbox (Piece 3 (bytes "activate\n") 1505396351394) 16384 32768
          ∷ with_outbox (Piece 0 (bytes "activate\n") 1505396351394) 16384 40000
          ∷ with_outbox (Piece 0 (bytes "change mf:mode \"on\"\n") 1505396353177) 16384 32768
          ∷ with_outbox (Piece 3 (bytes "change mf:mode \"on\"\n") 9123043837679) 16384 32769
          ∷ [];
      due =
          record { number = 0; used = 0; written = bytes ""; steps = 0 }
          ∷ record { number = 0; used = 0; written = bytes ""; steps = 0 }
          ∷ record { number = 0; used = 9; written = bytes "UP\u{3}\06update t1:pid [{\"p\":1,\"q\":true},{\"t\":1505396349.511}]\nUP\u{3}\0,update mf:label [\"ok\",{\"t\":1505396349.511}]\nUP\u{3}\0/update mf:pair [[true,1],{\"t\":1505396349.511}]\nUP\u{3}\0(update mf:mode [0,{\"t\":1505396349.511}]\nRP\u{3}\0\u{7}active\n"; steps = 0 }
          ∷ record { number = 0; used = 9; written = bytes "UP\0\06update t1:pid [{\"p\":1,\"q\":true},{\"t\":1505396349.511}]\nUP\0\0,update mf:label [\"ok\",{\"t\":1505396349.511}]\nUP\0\0/update mf:pair [[true,1],{\"t\":1505396349.511}]\nUP\0\0(update mf:mode [0,{\"t\":1505396349.511}]\nRP\0\0\u{7}active\n"; steps = 0 }
          ∷ record { number = 0; used = 20; written = bytes "DR\0\0\u{2}\u{3}1UP\0\0(update mf:mode [1,{\"t\":1505396353.177}]\nUP\u{3}\0(update mf:mode [1,{\"t\":1505396353.177}]\nRP\0\0)changed mf:mode [1,{\"t\":1505396353.177}]\n"; steps = 5 }
          ∷ record { number = 0; used = 20; written = bytes "DR\u{3}\0\u{2}\u{3}1UP\0\0(update mf:mode [1,{\"t\":9123043837.679}]\nUP\u{3}\0(update mf:mode [1,{\"t\":9123043837.679}]\nRP\u{3}\0)changed mf:mode [1,{\"t\":9123043837.679}]\n"; steps = 5 }
          ∷ [];
    }

unfoldable pub history_4 : History
history_4 =
    record {
      table = bytes "ND\u{1}s\0MO\u{2}t1\u{1}dCM\u{4}stop\0\0PA\u{4}mode\0\0\u{4}\u{2}\u{3}off\0\0\0\0\u{2}on\0\0\0\u{1}\0\u{1}0PA\u{3}pid\0\0\u{8}\u{2}\u{1}p\u{2}\0\0\0\0\0\0\0\0\0\0\0\0\0\0\0\t\u{1}q\u{3}\0\u{10}{\"p\":1,\"q\":true}MO\u{2}mf\u{1}dPA\u{4}list\0\0\u{6}\0\0\0\u{2}\u{2}\0\0\0\0\0\0\0\0\0\0\0\0\0\0\0\t\0\u{2}[]EN";
      area = 16385;
      time = 1521;
      start = 0;
      calls =
          with_area (Open 0 1000) 16384
          ∷ with_outbox (Piece 0 (bytes "change t1:pid \"\\u0080\"\n") 3512) 16384 32768
          ∷ with_outbox (Piece 0 (bytes "change t1:pid 301\n") 6325) 16385 40000
          ∷ with_outbox (Piece 0 (bytes "change t1:pid [1,true\n") 7564) 16384 32768
          ∷ with_outbox (Piece 0 (bytes "change mf:list    {\"a\" 1} \n") 8566) 16385 32768
          ∷ [];
      due =
          record { number = 0; used = 0; written = bytes ""; steps = 0 }
          ∷ record { number = 0; used = 23; written = bytes "RP\0\0@error_change t1:pid [\"WrongType\",\"value has the wrong type\",{}]\n"; steps = 3 }
          ∷ record { number = 0; used = 18; written = bytes "RP\0\0@error_change t1:pid [\"WrongType\",\"value has the wrong type\",{}]\n"; steps = 3 }
          ∷ record { number = 0; used = 22; written = bytes "RP\0\06error_change t1:pid [\"BadJSON\",\"data is not JSON\",{}]\n"; steps = 3 }
          ∷ record { number = 0; used = 27; written = bytes "RP\0\07error_change mf:list [\"BadJSON\",\"data is not JSON\",{}]\n"; steps = 4 }
          ∷ [];
    }

unfoldable pub history_5 : History
history_5 =
    record {
      table = bytes "ND\u{1}s\0ED\u{c}ISSE,SECoP,xMO\u{2}t1\u{1}dCM\u{2}go\0\u{1}\u{2}\0\0\0\0\0\0\0\0\0\0\0\0\0\0\0\tMO\u{2}mf\u{1}dPA\u{5}label\0\0\u{5}\0\0\0\u{8}\0\u{4}\"ok\"PA\u{4}pair\0\0\u{7}\u{2}\u{3}\u{2}\0\0\0\0\0\0\0\0\0\0\0\0\0\0\0\t\0\u{8}[true,1]EN";
      area = 16384;
      time = 1505396347318;
      start = 0;
      calls =
          with_area (Open 0 1000) 16384
          ∷ with_outbox (Piece 0 (bytes "read mf:pair\n") 1505396349418) 20000 40000
          ∷ with_outbox (Piece 0 (bytes "read mf:pair:x y\n") 1505396349717) 20000 32768
          ∷ with_outbox (Piece 0 (bytes "read MF:PAIR\n") 1505396349817) 20000 32768
          ∷ with_outbox (Piece 0 (bytes "read t1::value\n") 1505396350642) 16384 32769
          ∷ [];
      due =
          record { number = 0; used = 0; written = bytes ""; steps = 0 }
          ∷ record { number = 0; used = 13; written = bytes "RP\0\0.reply mf:pair [[true,1],{\"t\":1505396347.318}]\n"; steps = 3 }
          ∷ record { number = 0; used = 17; written = bytes "RP\0\0.reply mf:pair [[true,1],{\"t\":1505396347.318}]\n"; steps = 3 }
          ∷ record { number = 0; used = 13; written = bytes "RP\0\08error_read MF:PAIR [\"NoSuchModule\",\"no such module\",{}]\n"; steps = 0 }
          ∷ record { number = 0; used = 15; written = bytes "RP\0\0Ierror_read t1::value [\"ProtocolError\",\"malformed or unknown request\",{}]\n"; steps = 0 }
          ∷ [];
    }

unfoldable pub history_6 : History
history_6 =
    record {
      table = bytes "ND\u{1}s\0MO\u{2}t1\u{1}dPA\u{5}value\0\u{1}\u{1}\0\0\0\0\0\0\0\0\0\0\0\0\0\0\0\0\u{3}\u{2}\0\u{6}295.13MO\u{2}mf\u{1}dPA\u{3}pid\0\0\u{8}\u{2}\u{1}p\u{2}\0\0\0\0\0\0\0\0\0\0\0\0\0\0\0\t\u{1}q\u{3}\0\u{10}{\"p\":1,\"q\":true}PA\u{4}pair\0\0\u{7}\u{2}\u{3}\u{2}\0\0\0\0\0\0\0\0\0\0\0\0\0\0\0\t\0\u{8}[true,1]CM\u{4}stop\0\0EN";
      area = 16384;
      time = 572;
      start = 0;
      calls =
          with_area (Open 0 1000) 16384
          ∷ with_outbox (Piece 0 (bytes "change tx:target 1\n") 1505396351176) 16384 32768
          ∷ with_outbox (Piece 0 (bytes "do t1:tx\n") 1505396351277) 16385 32768
          ∷ with_outbox (Piece 0 (bytes "do t1:9\n") 1505396351931) 16384 32769
          ∷ [];
      due =
          record { number = 0; used = 0; written = bytes ""; steps = 0 }
          ∷ record { number = 0; used = 19; written = bytes "RP\0\0<error_change tx:target [\"NoSuchModule\",\"no such module\",{}]\n"; steps = 0 }
          ∷ record { number = 0; used = 9; written = bytes "RP\0\06error_do t1:tx [\"NoSuchCommand\",\"no such command\",{}]\n"; steps = 4 }
          ∷ record { number = 0; used = 8; written = bytes "RP\0\0Berror_do t1:9 [\"ProtocolError\",\"malformed or unknown request\",{}]\n"; steps = 0 }
          ∷ [];
    }

unfoldable pub history_7 : History
history_7 =
    record {
      table = bytes "ND\u{1}s\0MO\u{2}t1\u{1}dCM\u{4}stop\0\0PA\u{5}value\0\u{1}\u{1}\0\0\0\0\0\0\0\0\0\0\0\0\0\0\0\0\u{3}\u{2}\0\u{6}295.13MO\u{2}mf\u{1}dPA\u{4}pair\0\0\u{7}\u{2}\u{3}\u{2}\0\0\0\0\0\0\0\0\0\0\0\0\0\0\0\t\0\u{8}[true,1]EN";
      area = 16384;
      time = 1192;
      start = 0;
      calls =
          with_area (Open 0 1000) 16384
          ∷ with_outbox (Piece 0 (bytes "do t1:stop:x 5\n") 3988) 16384 32768
          ∷ with_outbox (Piece 0 (bytes "do t1:stop\n") 9999999999999) 16384 32768
          ∷ with_outbox (Piece 0 (bytes "do t1:stop:x 5\n") 4124) 20000 40000
          ∷ with_outbox (Piece 0 (bytes "do t1:stop:x 5\n") 568) 16384 32769
          ∷ [];
      due =
          record { number = 0; used = 0; written = bytes ""; steps = 0 }
          ∷ record { number = 0; used = 15; written = bytes "RP\0\0?error_do t1:stop:x [\"WrongType\",\"value has the wrong type\",{}]\n"; steps = 1 }
          ∷ record { number = 0; used = 11; written = bytes "DC\0\0\u{1}\0RP\0\0)done t1:stop [null,{\"t\":9999999999.999}]\n"; steps = 1 }
          ∷ record { number = 0; used = 15; written = bytes "RP\0\0?error_do t1:stop:x [\"WrongType\",\"value has the wrong type\",{}]\n"; steps = 1 }
          ∷ record { number = 0; used = 15; written = bytes "RP\0\0?error_do t1:stop:x [\"WrongType\",\"value has the wrong type\",{}]\n"; steps = 1 }
          ∷ [];
    }

unfoldable pub history_8 : History
history_8 =
    record {
      table = bytes "ND\u{1}s\0MO\u{2}t1\u{1}dNO\u{1}nCM\u{2}go\0\u{1}\u{2}\0\0\0\0\0\0\0\0\0\0\0\0\0\0\0\tPA\u{4}mode\0\0\u{4}\u{2}\u{3}off\0\0\0\0\u{2}on\0\0\0\u{1}\0\u{1}0EN";
      area = 16385;
      time = 5;
      start = 0;
      calls =
          with_area (Open 0 1000) 16384
          ∷ with_area (Open 8 1000) 16384
          ∷ with_area (Open 0 18446744073709551615) 16384
          ∷ with_outbox (Piece 8 (bytes "ping x\n") 3053) 16383 0
          ∷ with_outbox (Piece 0 (bytes "ping\n") 1) 16384 32767
          ∷ with_outbox (Piece 0 (bytes "ping\n") 3346) 20000 40000
          ∷ [];
      due =
          record { number = 0; used = 0; written = bytes ""; steps = 0 }
          ∷ record { number = 11; used = 0; written = bytes ""; steps = 0 }
          ∷ record { number = 10; used = 0; written = bytes ""; steps = 0 }
          ∷ record { number = 7; used = 0; written = bytes ""; steps = 0 }
          ∷ record { number = 7; used = 0; written = bytes ""; steps = 0 }
          ∷ record { number = 0; used = 5; written = bytes "RP\0\0\u{19}pong  [null,{\"t\":3.346}]\n"; steps = 0 }
          ∷ [];
    }

unfoldable pub history_9 : History
history_9 =
    record {
      table = bytes "ND\u{1}s\0MO\u{2}t1\u{1}dNO\u{1}nPA\u{6}target\0\0\u{1}\0\0\0\0\0\0\0\0\0\0\0\0\0\0\0\0\u{3}\u{2}\0\u{1}0PA\u{5}value\0\u{1}\u{1}\0\0\0\0\0\0\0\0\0\0\0\0\0\0\0\0\u{3}\u{2}\0\u{6}295.13PA\u{5}label\0\0\u{5}\0\0\0\u{8}\0\u{4}\"ok\"CM\u{4}stop\0\0EN";
      area = 20000;
      time = 2983;
      start = 0;
      calls =
          with_area (Open 0 1000) 16384
          ∷ with_outbox (Piece 0 (bytes "read ") 5712) 20000 32769
          ∷ with_outbox (Piece 0 (bytes "t1:value\nping x\npi") 7020) 16384 32768
          ∷ with_outbox (Piece 0 (bytes "ping x\npi") 7463) 20000 32768
          ∷ with_outbox (Piece 0 (bytes "pi") 7472) 16384 32768
          ∷ with_outbox (Piece 0 (bytes "") 9290) 16384 32769
          ∷ [];
      due =
          record { number = 0; used = 0; written = bytes ""; steps = 0 }
          ∷ record { number = 0; used = 5; written = bytes ""; steps = 0 }
          ∷ record { number = 0; used = 9; written = bytes "RP\0\0$reply t1:value [295.13,{\"t\":2.983}]\n"; steps = 2 }
          ∷ record { number = 0; used = 7; written = bytes "RP\0\0\u{1a}pong x [null,{\"t\":7.463}]\n"; steps = 0 }
          ∷ record { number = 0; used = 2; written = bytes ""; steps = 0 }
          ∷ record { number = 0; used = 0; written = bytes ""; steps = 0 }
          ∷ [];
    }

unfoldable pub history_10 : History
history_10 =
    record {
      table = bytes "ND\u{1}s\0MO\u{2}t1\u{1}dNO\u{1}nPA\u{3}pid\0\0\u{8}\u{2}\u{1}p\u{2}\0\0\0\0\0\0\0\0\0\0\0\0\0\0\0\t\u{1}q\u{3}\0\u{10}{\"p\":1,\"q\":true}MO\u{2}mf\u{1}dCM\u{2}go\0\u{1}\u{2}\0\0\0\0\0\0\0\0\0\0\0\0\0\0\0\tEN";
      area = 16384;
      time = 1242;
      start = 0;
      calls =
          with_area (Open 0 1000) 16384
          ∷ with_outbox (Piece 0 (bytes "*IDN? x\n") 3006) 16384 32768
          ∷ with_outbox (Piece 0 (bytes "check t1:pid {\"p\":5,\"q\":false}\n") 5474) 16385 32768
          ∷ with_outbox (Piece 0 (bytes "check t1:pid {\"Q\":false,\"p\":9}\n") 1462) 16384 32768
          ∷ with_outbox (Piece 0 (bytes "check t1:pid    [  ,]\n") 5523841563670) 16384 40000
          ∷ with_outbox (Piece 0 (bytes "read t1:pid\n") 1953) 16385 40000
          ∷ with_outbox (Piece 0 (bytes "check tx:value 1\n") 0) 16384 32768
          ∷ [];
      due =
          record { number = 0; used = 0; written = bytes ""; steps = 0 }
          ∷ record { number = 0; used = 8; written = bytes "RP\0\0%ISSE&SINE2020,SECoP,V2019-09-16,v1.0\n"; steps = 0 }
          ∷ record { number = 0; used = 31; written = bytes "RP\0\0Gerror_check t1:pid [\"ProtocolError\",\"malformed or unknown request\",{}]\n"; steps = 0 }
          ∷ record { number = 0; used = 31; written = bytes "RP\0\0Gerror_check t1:pid [\"ProtocolError\",\"malformed or unknown request\",{}]\n"; steps = 0 }
          ∷ record { number = 0; used = 22; written = bytes "RP\0\0Gerror_check t1:pid [\"ProtocolError\",\"malformed or unknown request\",{}]\n"; steps = 0 }
          ∷ record { number = 0; used = 12; written = bytes "RP\0\0,reply t1:pid [{\"p\":1,\"q\":true},{\"t\":1.242}]\n"; steps = 1 }
          ∷ record { number = 0; used = 17; written = bytes "RP\0\0Ierror_check tx:value [\"ProtocolError\",\"malformed or unknown request\",{}]\n"; steps = 0 }
          ∷ [];
    }

unfoldable pub history_11 : History
history_11 =
    record {
      table = bytes "ND\u{1}s\0MO\u{2}t1\u{1}dPA\u{4}mode\0\0\u{4}\u{2}\u{3}off\0\0\0\0\u{2}on\0\0\0\u{1}\0\u{1}0CM\u{2}go\0\u{1}\u{2}\0\0\0\0\0\0\0\0\0\0\0\0\0\0\0\tPA\u{5}ready\0\u{1}\u{3}\0\u{5}falseMO\u{2}mf\u{1}dPA\u{3}pid\0\0\u{8}\u{2}\u{1}p\u{2}\0\0\0\0\0\0\0\0\0\0\0\0\0\0\0\t\u{1}q\u{3}\0\u{10}{\"p\":1,\"q\":true}CM\u{4}stop\0\0EN";
      area = 20000;
      time = 1505396349473;
      start = 0;
      calls =
          with_area (Open 0 1000) 16384
          ∷ with_outbox (Piece 0 (bytes "activate mf\n") 1505396350018) 16384 32769
          ∷ with_outbox (Piece 0 (bytes "activate 1\n") 1505396347148) 16384 32768
          ∷ [];
      due =
          record { number = 0; used = 0; written = bytes ""; steps = 0 }
          ∷ record { number = 0; used = 12; written = bytes "UP\0\06update mf:pid [{\"p\":1,\"q\":true},{\"t\":1505396349.473}]\nRP\0\0\nactive mf\n"; steps = 0 }
          ∷ record { number = 0; used = 11; written = bytes "RP\0\0Eerror_activate 1 [\"ProtocolError\",\"malformed or unknown request\",{}]\n"; steps = 0 }
          ∷ [];
    }

unfoldable pub history_12 : History
history_12 =
    record {
      table = bytes "ND\u{1}s\0ED\u{c}ISSE,SECoP,xMO\u{2}t1\u{1}dPA\u{3}pid\0\0\u{8}\u{2}\u{1}p\u{2}\0\0\0\0\0\0\0\0\0\0\0\0\0\0\0\t\u{1}q\u{3}\0\u{10}{\"p\":1,\"q\":true}MO\u{2}mf\u{1}dPA\u{5}label\0\0\u{5}\0\0\0\u{8}\0\u{4}\"ok\"CM\u{4}stop\0\0PA\u{6}target\0\0\u{1}\0\0\0\0\0\0\0\0\0\0\0\0\0\0\0\0\u{3}\u{2}\0\u{1}0PA\u{4}pair\0\0\u{7}\u{2}\u{3}\u{2}\0\0\0\0\0\0\0\0\0\0\0\0\0\0\0\t\0\u{8}[true,1]EN";
      area = 16384;
      time = 545595029935;
      start = 0;
      calls =
          with_area (Open 0 1000) 16384
          ∷ with_area (Open 3 1000) 16384
          ∷ with_outbox (Piece 3 (bytes "activate\n") 1505396349739) 16384 40000
          ∷ with_outbox (Piece 0 (bytes "activate mf\n") 1505396350197) 16385 32768
          ∷ with_outbox (Piece 0 (bytes "change mf:target 0.0E+0\n") 9999999999999) 16384 32769
          ∷ with_outbox (Piece 3 (bytes "change t1:pid {\"p\":6,\"q\":true}\n") 1505396350197) 16384 32769
          ∷ [];
      due =
          record { number = 0; used = 0; written = bytes ""; steps = 0 }
          ∷ record { number = 0; used = 0; written = bytes ""; steps = 0 }
          ∷ record { number = 0; used = 9; written = bytes "UP\u{3}\05update t1:pid [{\"p\":1,\"q\":true},{\"t\":545595029.935}]\nUP\u{3}\0+update mf:label [\"ok\",{\"t\":545595029.935}]\nUP\u{3}\0)update mf:target [0,{\"t\":545595029.935}]\nUP\u{3}\0.update mf:pair [[true,1],{\"t\":545595029.935}]\nRP\u{3}\0\u{7}active\n"; steps = 0 }
          ∷ record { number = 0; used = 12; written = bytes "UP\0\0+update mf:label [\"ok\",{\"t\":545595029.935}]\nUP\0\0)update mf:target [0,{\"t\":545595029.935}]\nUP\0\0.update mf:pair [[true,1],{\"t\":545595029.935}]\nRP\0\0\nactive mf\n"; steps = 0 }
          ∷ record { number = 0; used = 24; written = bytes "DR\0\0\u{7}\u{2}0.0E+0UP\0\0/update mf:target [0.0E+0,{\"t\":9999999999.999}]\nUP\u{3}\0/update mf:target [0.0E+0,{\"t\":9999999999.999}]\nRP\0\00changed mf:target [0.0E+0,{\"t\":9999999999.999}]\n"; steps = 4 }
          ∷ record { number = 0; used = 31; written = bytes "DR\u{3}\0\u{11}\0{\"p\":6,\"q\":true}UP\u{3}\06update t1:pid [{\"p\":6,\"q\":true},{\"t\":1505396350.197}]\nRP\u{3}\07changed t1:pid [{\"p\":6,\"q\":true},{\"t\":1505396350.197}]\n"; steps = 1 }
          ∷ [];
    }

unfoldable pub history_13 : History
history_13 =
    record {
      table = bytes "ND\u{1}s\0ED\u{c}ISSE,SECoP,xMO\u{2}t1\u{1}dNO\u{1}nPA\u{4}pair\0\0\u{7}\u{2}\u{3}\u{2}\0\0\0\0\0\0\0\0\0\0\0\0\0\0\0\t\0\u{8}[true,1]MO\u{2}mf\u{1}dCM\u{2}go\0\u{1}\u{2}\0\0\0\0\0\0\0\0\0\0\0\0\0\0\0\tEN";
      area = 16384;
      time = 3800;
      start = 0;
      calls =
          with_area (Open 0 1000) 16384
          ∷ with_outbox (Piece 0 (bytes "read tx:value\n") 3800) 16384 32769
          ∷ with_outbox (Piece 0 (bytes "do t1:value\n") 6275) 16385 32768
          ∷ with_outbox (Piece 0 (bytes "do t1:9\n") 7769288106613) 16384 40000
          ∷ [];
      due =
          record { number = 0; used = 0; written = bytes ""; steps = 0 }
          ∷ record { number = 0; used = 14; written = bytes "RP\0\09error_read tx:value [\"NoSuchModule\",\"no such module\",{}]\n"; steps = 0 }
          ∷ record { number = 0; used = 12; written = bytes "RP\0\09error_do t1:value [\"NoSuchCommand\",\"no such command\",{}]\n"; steps = 2 }
          ∷ record { number = 0; used = 8; written = bytes "RP\0\0Berror_do t1:9 [\"ProtocolError\",\"malformed or unknown request\",{}]\n"; steps = 0 }
          ∷ [];
    }

unfoldable pub history_14 : History
history_14 =
    record {
      table = bytes "ND\u{1}s\0ED\u{c}ISSE,SECoP,xMO\u{2}t1\u{1}dCM\u{4}stop\0\0PA\u{6}target\0\0\u{1}\0\0\0\0\0\0\0\0\0\0\0\0\0\0\0\0\u{3}\u{2}\0\u{1}0MO\u{2}mf\u{1}dPA\u{5}value\0\u{1}\u{1}\0\0\0\0\0\0\0\0\0\0\0\0\0\0\0\0\u{3}\u{2}\0\u{6}295.13PA\u{3}pid\0\0\u{8}\u{2}\u{1}p\u{2}\0\0\0\0\0\0\0\0\0\0\0\0\0\0\0\t\u{1}q\u{3}\0\u{10}{\"p\":1,\"q\":true}PA\u{4}pair\0\0\u{7}\u{2}\u{3}\u{2}\0\0\0\0\0\0\0\0\0\0\0\0\0\0\0\t\0\u{8}[true,1]EN";
      area = 16384;
      time = 3574;
      start = 0;
      calls =
          with_area (Open 0 1000) 16384
          ∷ with_outbox (Piece 0 (bytes "do t1:stop  null \n") 4576) 16384 32768
          ∷ with_outbox (Piece 0 (bytes "do t1:stop  null \n") 6056) 16385 32768
          ∷ with_outbox (Piece 0 (bytes "do t1:stop 1.0\n") 7648) 20000 40000
          ∷ with_outbox (Piece 0 (bytes "do t1:stop:\n") 10569) 16384 40000
          ∷ [];
      due =
          record { number = 0; used = 0; written = bytes ""; steps = 0 }
          ∷ record { number = 0; used = 18; written = bytes "DC\0\0\u{1}\0RP\0\0 done t1:stop [null,{\"t\":4.576}]\n"; steps = 1 }
          ∷ record { number = 0; used = 18; written = bytes "DC\0\0\u{1}\0RP\0\0 done t1:stop [null,{\"t\":6.056}]\n"; steps = 1 }
          ∷ record { number = 0; used = 15; written = bytes "RP\0\0=error_do t1:stop [\"WrongType\",\"value has the wrong type\",{}]\n"; steps = 1 }
          ∷ record { number = 0; used = 12; written = bytes "DC\0\0\u{1}\0RP\0\0!done t1:stop [null,{\"t\":10.569}]\n"; steps = 1 }
          ∷ [];
    }

unfoldable pub history_15 : History
history_15 =
    record {
      table = bytes "ND\u{1}s\0ED\u{c}ISSE,SECoP,xMO\u{2}t1\u{1}dNO\u{1}nCM\u{2}go\0\u{1}\u{2}\0\0\0\0\0\0\0\0\0\0\0\0\0\0\0\tMO\u{2}mf\u{1}dPA\u{5}label\0\0\u{5}\0\0\0\u{8}\0\u{4}\"ok\"CM\u{4}stop\0\0PA\u{5}value\0\u{1}\u{1}\0\0\0\0\0\0\0\0\0\0\0\0\0\0\0\0\u{3}\u{2}\0\u{6}295.13PA\u{4}list\0\0\u{6}\0\0\0\u{2}\u{2}\0\0\0\0\0\0\0\0\0\0\0\0\0\0\0\t\0\u{2}[]EN";
      area = 16384;
      time = 970;
      start = 0;
      calls =
          with_area (Open 0 1000) 16384
          ∷ with_outbox (Reading 0 (bytes " ") 3898) 16384 32769
          ∷ with_outbox (Reading 6 (bytes "1") 5478) 20000 32769
          ∷ with_outbox (Unreadable 0 5 8132) 20000 32768
          ∷ with_outbox (Unreadable 6 1 8794) 16384 40000
          ∷ with_outbox (Piece 0 (bytes "read mf:label\n") 11004) 16384 32768
          ∷ [];
      due =
          record { number = 0; used = 0; written = bytes ""; steps = 0 }
          ∷ record { number = 15; used = 0; written = bytes ""; steps = 0 }
          ∷ record { number = 14; used = 0; written = bytes ""; steps = 0 }
          ∷ record { number = 16; used = 0; written = bytes ""; steps = 0 }
          ∷ record { number = 14; used = 0; written = bytes ""; steps = 0 }
          ∷ record { number = 0; used = 14; written = bytes "RP\0\0\"reply mf:label [\"ok\",{\"t\":0.970}]\n"; steps = 2 }
          ∷ [];
    }

unfoldable pub history_16 : History
history_16 =
    record {
      table = bytes "ND\u{1}s\0ED\u{c}ISSE,SECoP,xMO\u{2}t1\u{1}dNO\u{1}nCM\u{4}stop\0\0PA\u{4}pair\0\0\u{7}\u{2}\u{3}\u{2}\0\0\0\0\0\0\0\0\0\0\0\0\0\0\0\t\0\u{8}[true,1]MO\u{2}mf\u{1}dPA\u{6}target\0\0\u{1}\0\0\0\0\0\0\0\0\0\0\0\0\0\0\0\0\u{3}\u{2}\0\u{1}0EN";
      area = 20000;
      time = 2562;
      start = 0;
      calls =
          with_area (Open 0 1000) 16384
          ∷ with_outbox (Piece 0 (bytes "") 5151) 16384 32769
          ∷ with_outbox (Piece 0 (bytes "\r\nping x\npi") 7789) 16385 32768
          ∷ with_outbox (Piece 0 (bytes "ping x\npi") 9479) 16385 32768
          ∷ with_outbox (Piece 0 (bytes "pi") 11622) 16384 32768
          ∷ with_outbox (Piece 0 (bytes "") 11622) 16384 32768
          ∷ [];
      due =
          record { number = 0; used = 0; written = bytes ""; steps = 0 }
          ∷ record { number = 0; used = 0; written = bytes ""; steps = 0 }
          ∷ record { number = 0; used = 2; written = bytes "RP\0\0<error_  [\"ProtocolError\",\"malformed or unknown request\",{}]\n"; steps = 0 }
          ∷ record { number = 0; used = 7; written = bytes "RP\0\0\u{1a}pong x [null,{\"t\":9.479}]\n"; steps = 0 }
          ∷ record { number = 0; used = 2; written = bytes ""; steps = 0 }
          ∷ record { number = 0; used = 0; written = bytes ""; steps = 0 }
          ∷ [];
    }

unfoldable pub history_17 : History
history_17 =
    record {
      table = bytes "ND\u{1}s\0ED\u{c}ISSE,SECoP,xMO\u{2}t1\u{1}dPA\u{5}label\0\0\u{5}\0\0\0\u{8}\0\u{4}\"ok\"PA\u{6}target\0\0\u{1}\0\0\0\0\0\0\0\0\0\0\0\0\0\0\0\0\u{3}\u{2}\0\u{1}0PA\u{4}pair\0\0\u{7}\u{2}\u{3}\u{2}\0\0\0\0\0\0\0\0\0\0\0\0\0\0\0\t\0\u{8}[true,1]CM\u{2}go\0\u{1}\u{2}\0\0\0\0\0\0\0\0\0\0\0\0\0\0\0\tCM\u{4}stop\0\0EN";
      area = 20000;
      time = 538;
      start = 0;
      calls =
          with_area (Open 0 1000) 16384
          ∷ with_outbox (Piece 0 (bytes "read tx:value\n") 1634) 16385 32768
          ∷ with_outbox (Piece 0 (bytes "change t1:tx 1\n") 2932) 16385 32768
          ∷ with_outbox (Piece 0 (bytes "meas:volt?\n") 3688) 16385 32768
          ∷ [];
      due =
          record { number = 0; used = 0; written = bytes ""; steps = 0 }
          ∷ record { number = 0; used = 14; written = bytes "RP\0\09error_read tx:value [\"NoSuchModule\",\"no such module\",{}]\n"; steps = 0 }
          ∷ record { number = 0; used = 15; written = bytes "RP\0\0>error_change t1:tx [\"NoSuchParameter\",\"no such parameter\",{}]\n"; steps = 5 }
          ∷ record { number = 0; used = 11; written = bytes "RP\0\0Ferror_meas:volt?  [\"ProtocolError\",\"malformed or unknown request\",{}]\n"; steps = 0 }
          ∷ [];
    }

unfoldable pub history_18 : History
history_18 =
    record {
      table = bytes "ND\u{1}s\0ED\u{c}ISSE,SECoP,xMO\u{2}t1\u{1}dPA\u{4}list\0\0\u{6}\0\0\0\u{2}\u{2}\0\0\0\0\0\0\0\0\0\0\0\0\0\0\0\t\0\u{2}[]MO\u{2}mf\u{1}dCM\u{2}go\0\u{1}\u{2}\0\0\0\0\0\0\0\0\0\0\0\0\0\0\0\tEN";
      area = 16384;
      time = 1333;
      start = 0;
      calls =
          with_area (Open 0 1000) 16384
          ∷ with_area (Open 8 1000) 16384
          ∷ with_area (Open 0 1766) 16384
          ∷ with_area (Close 6 4542) 16384
          ∷ with_outbox (Piece 7 (bytes "ping\n") 9999999999999) 16384 32768
          ∷ with_outbox (Piece 0 (bytes "ping\n") 5646) 16384 32768
          ∷ [];
      due =
          record { number = 0; used = 0; written = bytes ""; steps = 0 }
          ∷ record { number = 11; used = 0; written = bytes ""; steps = 0 }
          ∷ record { number = 13; used = 0; written = bytes ""; steps = 0 }
          ∷ record { number = 12; used = 0; written = bytes ""; steps = 0 }
          ∷ record { number = 12; used = 0; written = bytes ""; steps = 0 }
          ∷ record { number = 0; used = 5; written = bytes "RP\0\0\u{19}pong  [null,{\"t\":5.646}]\n"; steps = 0 }
          ∷ [];
    }

unfoldable pub history_19 : History
history_19 =
    record {
      table = bytes "ND\u{1}s\0MO\u{2}t1\u{1}dNO\u{1}nPA\u{5}value\0\u{1}\u{1}\0\0\0\0\0\0\0\0\0\0\0\0\0\0\0\0\u{3}\u{2}\0\u{6}295.13MO\u{2}mf\u{1}dPA\u{3}pid\0\0\u{8}\u{2}\u{1}p\u{2}\0\0\0\0\0\0\0\0\0\0\0\0\0\0\0\t\u{1}q\u{3}\0\u{10}{\"p\":1,\"q\":true}PA\u{6}target\0\0\u{1}\0\0\0\0\0\0\0\0\0\0\0\0\0\0\0\0\u{3}\u{2}\0\u{1}0CM\u{2}go\0\u{1}\u{2}\0\0\0\0\0\0\0\0\0\0\0\0\0\0\0\tEN";
      area = 16384;
      time = 19;
      start = 0;
      calls =
          with_area (Open 0 1000) 16384
          ∷ with_outbox (Piece 0 (bytes "activate mf\n") 1471) 20000 32768
          ∷ with_outbox (Piece 0 (bytes "activate 1\n") 3065) 20000 32768
          ∷ [];
      due =
          record { number = 0; used = 0; written = bytes ""; steps = 0 }
          ∷ record { number = 0; used = 12; written = bytes "UP\0\0-update mf:pid [{\"p\":1,\"q\":true},{\"t\":0.019}]\nUP\0\0!update mf:target [0,{\"t\":0.019}]\nRP\0\0\nactive mf\n"; steps = 0 }
          ∷ record { number = 0; used = 11; written = bytes "RP\0\0Eerror_activate 1 [\"ProtocolError\",\"malformed or unknown request\",{}]\n"; steps = 0 }
          ∷ [];
    }

unfoldable pub history_20 : History
history_20 =
    record {
      table = bytes "ND\u{1}s\0MO\u{2}t1\u{1}dCM\u{2}go\0\u{1}\u{2}\0\0\0\0\0\0\0\0\0\0\0\0\0\0\0\tPA\u{6}target\0\0\u{1}\0\0\0\0\0\0\0\0\0\0\0\0\0\0\0\0\u{3}\u{2}\0\u{1}0PA\u{5}value\0\u{1}\u{1}\0\0\0\0\0\0\0\0\0\0\0\0\0\0\0\0\u{3}\u{2}\0\u{6}295.13PA\u{5}ready\0\u{1}\u{3}\0\u{5}falsePA\u{4}list\0\0\u{6}\0\0\0\u{2}\u{2}\0\0\0\0\0\0\0\0\0\0\0\0\0\0\0\t\0\u{2}[]EN";
      area = 16384;
      time = 9999999999999;
      start = 0;
      calls =
          with_area (Open 0 1000) 16384
          ∷ with_outbox (Piece 0 (bytes "do tx:stop\n") 0) 16385 32768
          ∷ with_outbox (Piece 0 (bytes "do t1:tx\n") 493) 16385 32768
          ∷ with_outbox (Piece 0 (bytes "read 1:2\n") 493) 16385 32769
          ∷ [];
      due =
          record { number = 0; used = 0; written = bytes ""; steps = 0 }
          ∷ record { number = 0; used = 11; written = bytes "RP\0\06error_do tx:stop [\"NoSuchModule\",\"no such module\",{}]\n"; steps = 0 }
          ∷ record { number = 0; used = 9; written = bytes "RP\0\06error_do t1:tx [\"NoSuchCommand\",\"no such command\",{}]\n"; steps = 5 }
          ∷ record { number = 0; used = 9; written = bytes "RP\0\0Cerror_read 1:2 [\"ProtocolError\",\"malformed or unknown request\",{}]\n"; steps = 0 }
          ∷ [];
    }

unfoldable pub history_21 : History
history_21 =
    record {
      table = bytes "ND\u{1}s\0MO\u{2}t1\0PA\u{1}p\0\0\u{3}\0\u{5}falseMO\u{2}mf\0PA\u{1}q\0\0\u{2}\0\0\0\0\0\0\0\0\0\0\0\0\0\0\0\t\0\u{1}0EN";
      area = 16384;
      time = 1000;
      start = 0;
      calls =
          with_area (Open 1 2000) 16384
          ∷ with_area (Open 2 3000) 16384
          ∷ with_outbox (Piece 1 (bytes "activate\n") 4000) 16384 32768
          ∷ with_outbox (Piece 1 (bytes "deactivate t1\n") 5000) 16384 32768
          ∷ with_outbox (Piece 2 (bytes "change t1:p true\n") 6000) 16384 32768
          ∷ with_outbox (Piece 2 (bytes "change mf:q 7\n") 7000) 16384 32768
          ∷ [];
      due =
          record { number = 0; used = 0; written = bytes ""; steps = 0 }
          ∷ record { number = 0; used = 0; written = bytes ""; steps = 0 }
          ∷ record { number = 0; used = 9; written = bytes "UP\u{1}\0 update t1:p [false,{\"t\":1.000}]\nUP\u{1}\0\u{1c}update mf:q [0,{\"t\":1.000}]\nRP\u{1}\0\u{7}active\n"; steps = 0 }
          ∷ record { number = 0; used = 14; written = bytes "RP\u{1}\0\u{c}inactive t1\n"; steps = 0 }
          ∷ record { number = 0; used = 17; written = bytes "DR\u{2}\0\u{5}\0trueRP\u{2}\0 changed t1:p [true,{\"t\":6.000}]\n"; steps = 1 }
          ∷ record { number = 0; used = 14; written = bytes "DR\u{2}\0\u{2}\u{1}7UP\u{1}\0\u{1c}update mf:q [7,{\"t\":7.000}]\nRP\u{2}\0\u{1d}changed mf:q [7,{\"t\":7.000}]\n"; steps = 2 }
          ∷ [];
    }

unfoldable pub history_22 : History
history_22 =
    record {
      table = bytes "ND\u{1}s\0MO\u{2}t1\0PA\u{1}p\0\0\u{2}\0\0\0\0\0\0\0\0\0\0\0\0\0\0\0\t\0\u{1}3EN";
      area = 16384;
      time = 1000;
      start = 0;
      calls =
          with_area (Open 0 2000) 16384
          ∷ with_outbox (Piece 0 (bytes "activate\n") 3000) 16384 32768
          ∷ with_area (Close 0 4000) 16384
          ∷ with_outbox (Reading 0 (bytes "4") 5000) 16384 32768
          ∷ with_area (Open 0 6000) 16384
          ∷ with_outbox (Reading 0 (bytes "5") 7000) 16384 32768
          ∷ with_outbox (Piece 0 (bytes "read t1:p\n") 8000) 16384 32768
          ∷ [];
      due =
          record { number = 0; used = 0; written = bytes ""; steps = 0 }
          ∷ record { number = 0; used = 9; written = bytes "UP\0\0\u{1c}update t1:p [3,{\"t\":1.000}]\nRP\0\0\u{7}active\n"; steps = 0 }
          ∷ record { number = 0; used = 0; written = bytes ""; steps = 0 }
          ∷ record { number = 0; used = 0; written = bytes ""; steps = 0 }
          ∷ record { number = 0; used = 0; written = bytes ""; steps = 0 }
          ∷ record { number = 0; used = 0; written = bytes ""; steps = 0 }
          ∷ record { number = 0; used = 10; written = bytes "RP\0\0\u{1b}reply t1:p [5,{\"t\":7.000}]\n"; steps = 1 }
          ∷ [];
    }

unfoldable pub history_23 : History
history_23 =
    record {
      table = bytes "ND\u{1}s\0MO\u{2}t1\0PA\u{1}p\0\0\u{2}\0\0\0\0\0\0\0\0\0\0\0\0\0\0\0\t\0\u{1}3CM\u{4}stop\0\0MO\u{2}mf\0CM\u{2}go\0\u{1}\u{6}\0\0\0\u{2}\u{2}\0\0\0\0\0\0\0\0\0\0\0\0\0\0\0\tEN";
      area = 16384;
      time = 1000;
      start = 0;
      calls =
          with_area (Open 0 2000) 16384
          ∷ with_outbox (Piece 0 (bytes "do mf:go  [ 1 , 2 ] \n") 3000) 16384 32768
          ∷ with_outbox (Piece 0 (bytes "do t1:stop\n") 4000) 16384 32768
          ∷ [];
      due =
          record { number = 0; used = 0; written = bytes ""; steps = 0 }
          ∷ record { number = 0; used = 21; written = bytes "DC\0\0\u{6}\u{1}[1,2]RP\0\0\u{1e}done mf:go [null,{\"t\":3.000}]\n"; steps = 3 }
          ∷ record { number = 0; used = 11; written = bytes "DC\0\0\u{1}\0RP\0\0 done t1:stop [null,{\"t\":4.000}]\n"; steps = 2 }
          ∷ [];
    }

unfoldable pub history_24 : History
history_24 =
    record {
      table = bytes "ND\u{1}s\0MO\u{2}t1\0EN";
      area = 16384;
      time = 1000;
      start = 0;
      calls =
          with_area (Open 0 2000) 16384
          ∷ with_outbox (Piece 0 (bytes "ping xxxxxxxxxxxxxxxxxxxxxxxxxxxxxxxxxxxxxxxxxxxxxxxxxxxxxxxxxxxxxxxxxxxxxxxxxxxxxxxxxxxxxxxxxxxxxxxxxxxxxxxxxxxxxxxxxxxxxxxxxxxxxxxxxxxxxxxxxxxxxxxxxxxxxxxxxxxxxxxxxxxxxxxxxxxxxxxxxxxxxxxxxxxxxxxxxxxxxxxxxxxxxxxxxxxxxxxxxxxxxxxxxxxxxxxxxxxxxxxxxxxxxxxxxxxxxxxxxxxxxxxxxxxxxxxxxxxxxxxxxxxxxxxxxxxxxxxxxxxxxxxxxxxxxxxxxxxxxxxxxxxxxxxxxxxxxxxxxxxxxxxxxxxxxxxxxxxxxxxxxxxxxxxxxxxxxxxxxxxxxxxxxxxxxxxxxxxxxxxxxxxxxxxxxxxxxxxxxxxxxxxxxxxxxxxxxxxxxxxxxxxxxxxxxxxxxxxxxxxxxxxxxxxxxxxxxxxxxxxxxxxxxxxxxxxxxxxxxxxxxxxxxxxxxxxxxxxxxxxxxxxxxxxxxxxxxxxxxxxxxxxxxxxxxxxxxxxxxxxxxxxxxxxxxxxxxxxxxxxxxxxxxxxxxxxxxxxxxxxxxxxxxxxxxxxxxxxxxxxxxxxxxxxxxxxxxxxxxxxxxxxxxxxxxxxxxxxxxxxxxxxxxxxxxxxxxxxxxxxxxxxxxxxxxxxxxxxxxxxxxxxxxxxxxxxxxxxxxxxxxxxxxxxxxxxxxxxxxxxxxxxxxxxxxxxxxxxxxxxxxxxxxxxxxxxxxxxxxxxxxxxxxxxxxxxxxxxxxxxxxxxxxxxxxxxxxxxxxxxxxxxxxxxxxxxxxxxxxxxxxxxxxxxxxxxxxxxxxxxxxxxxxxxxxxxxxxxxxxxxxxxxxxxxxxxxxxxxxxxxxxxxxxxxxxxxxxxxxxxxxxxxxxxxxxxxxxxxxxxxxxxxxxxxxxxxxxxxxxxxxxxxxxxxxxxxxxxxxxxxxxxxxxxxxxxxxxxxxxxxxxxxxxxxxxxxxxxxxxx\n") 3000) 16384 32768
          ∷ with_outbox (Piece 0 (bytes "ping xxxxxxxxxxxxxxxxxxxxxxxxxxxxxxxxxxxxxxxxxxxxxxxxxxxxxxxxxxxxxxxxxxxxxxxxxxxxxxxxxxxxxxxxxxxxxxxxxxxxxxxxxxxxxxxxxxxxxxxxxxxxxxxxxxxxxxxxxxxxxxxxxxxxxxxxxxxxxxxxxxxxxxxxxxxxxxxxxxxxxxxxxxxxxxxxxxxxxxxxxxxxxxxxxxxxxxxxxxxxxxxxxxxxxxxxxxxxxxxxxxxxxxxxxxxxxxxxxxxxxxxxxxxxxxxxxxxxxxxxxxxxxxxxxxxxxxxxxxxxxxxxxxxxxxxxxxxxxxxxxxxxxxxxxxxxxxxxxxxxxxxxxxxxxxxxxxxxxxxxxxxxxxxxxxxxxxxxxxxxxxxxxxxxxxxxxxxxxxxxxxxxxxxxxxxxxxxxxxxxxxxxxxxxxxxxxxxxxxxxxxxxxxxxxxxxxxxxxxxxxxxxxxxxxxxxxxxxxxxxxxxxxxxxxxxxxxxxxxxxxxxxxxxxxxxxxxxxxxxxxxxxxxxxxxxxxxxxxxxxxxxxxxxxxxxxxxxxxxxxxxxxxxxxxxxxxxxxxxxxxxxxxxxxxxxxxxxxxxxxxxxxxxxxxxxxxxxxxxxxxxxxxxxxxxxxxxxxxxxxxxxxxxxxxxxxxxxxxxxxxxxxxxxxxxxxxxxxxxxxxxxxxxxxxxxxxxxxxxxxxxxxxxxxxxxxxxxxxxxxxxxxxxxxxxxxxxxxxxxxxxxxxxxxxxxxxxxxxxxxxxxxxxxxxxxxxxxxxxxxxxxxxxxxxxxxxxxxxxxxxxxxxxxxxxxxxxxxxxxxxxxxxxxxxxxxxxxxxxxxxxxxxxxxxxxxxxxxxxxxxxxxxxxxxxxxxxxxxxxxxxxxxxxxxxxxxxxxxxxxxxxxxxxxxxxxxxxxxxxxxxxxxxxxxxxxxxxxxxxxxxxxxxxxxxxxxxxxxxxxxxxxxxxxxxxxxxxxxxxxxxxxxxxxxxxxxxxxxxxxxxxxxxxxxxxxxxxxxx\r\n") 4000) 16384 32768
          ∷ [];
      due =
          record { number = 0; used = 0; written = bytes ""; steps = 0 }
          ∷ record { number = 0; used = 1025; written = bytes "RP\0\u{4}\u{14}pong xxxxxxxxxxxxxxxxxxxxxxxxxxxxxxxxxxxxxxxxxxxxxxxxxxxxxxxxxxxxxxxxxxxxxxxxxxxxxxxxxxxxxxxxxxxxxxxxxxxxxxxxxxxxxxxxxxxxxxxxxxxxxxxxxxxxxxxxxxxxxxxxxxxxxxxxxxxxxxxxxxxxxxxxxxxxxxxxxxxxxxxxxxxxxxxxxxxxxxxxxxxxxxxxxxxxxxxxxxxxxxxxxxxxxxxxxxxxxxxxxxxxxxxxxxxxxxxxxxxxxxxxxxxxxxxxxxxxxxxxxxxxxxxxxxxxxxxxxxxxxxxxxxxxxxxxxxxxxxxxxxxxxxxxxxxxxxxxxxxxxxxxxxxxxxxxxxxxxxxxxxxxxxxxxxxxxxxxxxxxxxxxxxxxxxxxxxxxxxxxxxxxxxxxxxxxxxxxxxxxxxxxxxxxxxxxxxxxxxxxxxxxxxxxxxxxxxxxxxxxxxxxxxxxxxxxxxxxxxxxxxxxxxxxxxxxxxxxxxxxxxxxxxxxxxxxxxxxxxxxxxxxxxxxxxxxxxxxxxxxxxxxxxxxxxxxxxxxxxxxxxxxxxxxxxxxxxxxxxxxxxxxxxxxxxxxxxxxxxxxxxxxxxxxxxxxxxxxxxxxxxxxxxxxxxxxxxxxxxxxxxxxxxxxxxxxxxxxxxxxxxxxxxxxxxxxxxxxxxxxxxxxxxxxxxxxxxxxxxxxxxxxxxxxxxxxxxxxxxxxxxxxxxxxxxxxxxxxxxxxxxxxxxxxxxxxxxxxxxxxxxxxxxxxxxxxxxxxxxxxxxxxxxxxxxxxxxxxxxxxxxxxxxxxxxxxxxxxxxxxxxxxxxxxxxxxxxxxxxxxxxxxxxxxxxxxxxxxxxxxxxxxxxxxxxxxxxxxxxxxxxxxxxxxxxxxxxxxxxxxxxxxxxxxxxxxxxxxxxxxxxxxxxxxxxxxxxxxxxxxxxxxxxxxxxxxxxxxxxxxxxxxxxxxxxxxxxxxxxxxxxxxxxxxxxxxxxxxxxxxxxxxxxxxxxxxxxxxxxx [null,{\"t\":3.000}]\n"; steps = 0 }
          ∷ record { number = 0; used = 1025; written = bytes "RP\0\u{4}\u{13}pong xxxxxxxxxxxxxxxxxxxxxxxxxxxxxxxxxxxxxxxxxxxxxxxxxxxxxxxxxxxxxxxxxxxxxxxxxxxxxxxxxxxxxxxxxxxxxxxxxxxxxxxxxxxxxxxxxxxxxxxxxxxxxxxxxxxxxxxxxxxxxxxxxxxxxxxxxxxxxxxxxxxxxxxxxxxxxxxxxxxxxxxxxxxxxxxxxxxxxxxxxxxxxxxxxxxxxxxxxxxxxxxxxxxxxxxxxxxxxxxxxxxxxxxxxxxxxxxxxxxxxxxxxxxxxxxxxxxxxxxxxxxxxxxxxxxxxxxxxxxxxxxxxxxxxxxxxxxxxxxxxxxxxxxxxxxxxxxxxxxxxxxxxxxxxxxxxxxxxxxxxxxxxxxxxxxxxxxxxxxxxxxxxxxxxxxxxxxxxxxxxxxxxxxxxxxxxxxxxxxxxxxxxxxxxxxxxxxxxxxxxxxxxxxxxxxxxxxxxxxxxxxxxxxxxxxxxxxxxxxxxxxxxxxxxxxxxxxxxxxxxxxxxxxxxxxxxxxxxxxxxxxxxxxxxxxxxxxxxxxxxxxxxxxxxxxxxxxxxxxxxxxxxxxxxxxxxxxxxxxxxxxxxxxxxxxxxxxxxxxxxxxxxxxxxxxxxxxxxxxxxxxxxxxxxxxxxxxxxxxxxxxxxxxxxxxxxxxxxxxxxxxxxxxxxxxxxxxxxxxxxxxxxxxxxxxxxxxxxxxxxxxxxxxxxxxxxxxxxxxxxxxxxxxxxxxxxxxxxxxxxxxxxxxxxxxxxxxxxxxxxxxxxxxxxxxxxxxxxxxxxxxxxxxxxxxxxxxxxxxxxxxxxxxxxxxxxxxxxxxxxxxxxxxxxxxxxxxxxxxxxxxxxxxxxxxxxxxxxxxxxxxxxxxxxxxxxxxxxxxxxxxxxxxxxxxxxxxxxxxxxxxxxxxxxxxxxxxxxxxxxxxxxxxxxxxxxxxxxxxxxxxxxxxxxxxxxxxxxxxxxxxxxxxxxxxxxxxxxxxxxxxxxxxxxxxxxxxxxxxxxxxxxxxxxxxxxxxxxx [null,{\"t\":4.000}]\n"; steps = 0 }
          ∷ [];
    }

unfoldable pub history_25 : History
history_25 =
    record {
      table = bytes "ND\u{1}s\0MO\u{2}t1\0EN";
      area = 16384;
      time = 1000;
      start = 0;
      calls =
          with_area (Open 0 2000) 16384
          ∷ with_outbox (Piece 0 (bytes "ping xxxxxxxxxxxxxxxxxxxxxxxxxxxxxxxxxxxxxxxxxxxxxxxxxxxxxxxxxxxxxxxxxxxxxxxxxxxxxxxxxxxxxxxxxxxxxxxxxxxxxxxxxxxxxxxxxxxxxxxxxxxxxxxxxxxxxxxxxxxxxxxxxxxxxxxxxxxxxxxxxxxxxxxxxxxxxxxxxxxxxxxxxxxxxxxxxxxxxxxxxxxxxxxxxxxxxxxxxxxxxxxxxxxxxxxxxxxxxxxxxxxxxxxxxxxxxxxxxxxxxxxxxxxxxxxxxxxxxxxxxxxxxxxxxxxxxxxxxxxxxxxxxxxxxxxxxxxxxxxxxxxxxxxxxxxxxxxxxxxxxxxxxxxxxxxxxxxxxxxxxxxxxxxxxxxxxxxxxxxxxxxxxxxxxxxxxxxxxxxxxxxxxxxxxxxxxxxxxxxxxxxxxxxxxxxxxxxxxxxxxxxxxxxxxxxxxxxxxxxxxxxxxxxxxxxxxxxxxxxxxxxxxxxxxxxxxxxxxxxxxxxxxxxxxxxxxxxxxxxxxxxxxxxxxxxxxxxxxxxxxxxxxxxxxxxxxxxxxxxxxxxxxxxxxxxxxxxxxxxxxxxxxxxxxxxxxxxxxxxxxxxxxxxxxxxxxxxxxxxxxxxxxxxxxxxxxxxxxxxxxxxxxxxxxxxxxxxxxxxxxxxxxxxxxxxxxxxxxxxxxxxxxxxxxxxxxxxxxxxxxxxxxxxxxxxxxxxxxxxxxxxxxxxxxxxxxxxxxxxxxxxxxxxxxxxxxxxxxxxxxxxxxxxxxxxxxxxxxxxxxxxxxxxxxxxxxxxxxxxxxxxxxxxxxxxxxxxxxxxxxxxxxxxxxxxxxxxxxxxxxxxxxxxxxxxxxxxxxxxxxxxxxxxxxxxxxxxxxxxxxxxxxxxxxxxxxxxxxxxxxxxxxxxxxxxxxxxxxxxxxxxxxxxxxxxxxxxxxxxxxxxxxxxxxxxxxxxxxxxxxxxxxxxxxxxxxxxxxxxxxxxxxxxxxxxxxxxxxxxxxxxxxxxxxxxxxxxxxxxx\n") 3000) 16384 32768
          ∷ with_outbox (Piece 0 (bytes "ping xxxxxxxxxxxxxxxxxxxxxxxxxxxxxxxxxxxxxxxxxxxxxxxxxxxxxxxxxxxxxxxxxxxxxxxxxxxxxxxxxxxxxxxxxxxxxxxxxxxxxxxxxxxxxxxxxxxxxxxxxxxxxxxxxxxxxxxxxxxxxxxxxxxxxxxxxxxxxxxxxxxxxxxxxxxxxxxxxxxxxxxxxxxxxxxxxxxxxxxxxxxxxxxxxxxxxxxxxxxxxxxxxxxxxxxxxxxxxxxxxxxxxxxxxxxxxxxxxxxxxxxxxxxxxxxxxxxxxxxxxxxxxxxxxxxxxxxxxxxxxxxxxxxxxxxxxxxxxxxxxxxxxxxxxxxxxxxxxxxxxxxxxxxxxxxxxxxxxxxxxxxxxxxxxxxxxxxxxxxxxxxxxxxxxxxxxxxxxxxxxxxxxxxxxxxxxxxxxxxxxxxxxxxxxxxxxxxxxxxxxxxxxxxxxxxxxxxxxxxxxxxxxxxxxxxxxxxxxxxxxxxxxxxxxxxxxxxxxxxxxxxxxxxxxxxxxxxxxxxxxxxxxxxxxxxxxxxxxxxxxxxxxxxxxxxxxxxxxxxxxxxxxxxxxxxxxxxxxxxxxxxxxxxxxxxxxxxxxxxxxxxxxxxxxxxxxxxxxxxxxxxxxxxxxxxxxxxxxxxxxxxxxxxxxxxxxxxxxxxxxxxxxxxxxxxxxxxxxxxxxxxxxxxxxxxxxxxxxxxxxxxxxxxxxxxxxxxxxxxxxxxxxxxxxxxxxxxxxxxxxxxxxxxxxxxxxxxxxxxxxxxxxxxxxxxxxxxxxxxxxxxxxxxxxxxxxxxxxxxxxxxxxxxxxxxxxxxxxxxxxxxxxxxxxxxxxxxxxxxxxxxxxxxxxxxxxxxxxxxxxxxxxxxxxxxxxxxxxxxxxxxxxxxxxxxxxxxxxxxxxxxxxxxxxxxxxxxxxxxxxxxxxxxxxxxxxxxxxxxxxxxxxxxxxxxxxxxxxxxxxxxxxxxxxxxxxxxxxxxxxxxxxxxxxxxxxxxxxxxxxxxxxxxxxxxxxxxxxxx\r\n") 4000) 16384 32768
          ∷ with_outbox (Piece 0 (bytes "ping\n") 5000) 16384 32768
          ∷ [];
      due =
          record { number = 0; used = 0; written = bytes ""; steps = 0 }
          ∷ record { number = 0; used = 1026; written = bytes "RP\0\0<error_  [\"ProtocolError\",\"malformed or unknown request\",{}]\n"; steps = 0 }
          ∷ record { number = 0; used = 1026; written = bytes "RP\0\0<error_  [\"ProtocolError\",\"malformed or unknown request\",{}]\n"; steps = 0 }
          ∷ record { number = 0; used = 5; written = bytes "RP\0\0\u{19}pong  [null,{\"t\":5.000}]\n"; steps = 0 }
          ∷ [];
    }

unfoldable pub history_26 : History
history_26 =
    record {
      table = bytes "ND\u{1}s\0MO\u{2}t1\0PA\u{1}p\0\0\u{2}\0\0\0\0\0\0\0\0\0\0\0\0\0\0\0\t\0\u{1}3CM\u{4}stop\0\0EN";
      area = 16384;
      time = 1000;
      start = 0;
      calls =
          with_area (Open 0 2000) 16384
          ∷ with_outbox (Piece 0 (bytes "activate 9x\n") 3000) 16384 32768
          ∷ with_outbox (Piece 0 (bytes "activate tx\n") 4000) 16384 32768
          ∷ with_outbox (Piece 0 (bytes "deactivate :\n") 5000) 16384 32768
          ∷ with_outbox (Piece 0 (bytes "read t1\n") 6000) 16384 32768
          ∷ with_outbox (Piece 0 (bytes "read t1:tx\n") 7000) 16384 32768
          ∷ with_outbox (Piece 0 (bytes "read t1:stop\n") 8000) 16384 32768
          ∷ with_outbox (Piece 0 (bytes "do t1:p\n") 9000) 16384 32768
          ∷ [];
      due =
          record { number = 0; used = 0; written = bytes ""; steps = 0 }
          ∷ record { number = 0; used = 12; written = bytes "RP\0\0Ferror_activate 9x [\"ProtocolError\",\"malformed or unknown request\",{}]\n"; steps = 0 }
          ∷ record { number = 0; used = 12; written = bytes "RP\0\07error_activate tx [\"NoSuchModule\",\"no such module\",{}]\n"; steps = 0 }
          ∷ record { number = 0; used = 13; written = bytes "RP\0\0Gerror_deactivate : [\"ProtocolError\",\"malformed or unknown request\",{}]\n"; steps = 0 }
          ∷ record { number = 0; used = 8; written = bytes "RP\0\0Berror_read t1 [\"ProtocolError\",\"malformed or unknown request\",{}]\n"; steps = 0 }
          ∷ record { number = 0; used = 11; written = bytes "RP\0\0<error_read t1:tx [\"NoSuchParameter\",\"no such parameter\",{}]\n"; steps = 2 }
          ∷ record { number = 0; used = 13; written = bytes "RP\0\0>error_read t1:stop [\"NoSuchParameter\",\"no such parameter\",{}]\n"; steps = 2 }
          ∷ record { number = 0; used = 8; written = bytes "RP\0\05error_do t1:p [\"NoSuchCommand\",\"no such command\",{}]\n"; steps = 1 }
          ∷ [];
    }

unfoldable pub history_27 : History
history_27 =
    record {
      table = bytes "ND\u{1}s\0MO\u{2}t1\0PA\u{1}v\0\u{1}\u{3}\0\u{5}falsePA\u{1}p\0\0\u{2}\0\0\0\0\0\0\0\0\0\0\0\0\0\0\0\t\0\u{1}3EN";
      area = 16384;
      time = 1000;
      start = 0;
      calls =
          with_area (Open 0 2000) 16384
          ∷ with_outbox (Piece 0 (bytes "change t1:v }\n") 3000) 16384 32768
          ∷ with_outbox (Piece 0 (bytes "change t1:p 01\n") 4000) 16384 32768
          ∷ with_outbox (Piece 0 (bytes "change t1:p true\n") 5000) 16384 32768
          ∷ with_outbox (Piece 0 (bytes "change t1:p 10\n") 6000) 16384 32768
          ∷ with_outbox (Piece 0 (bytes "read t1:p\n") 7000) 16384 32768
          ∷ [];
      due =
          record { number = 0; used = 0; written = bytes ""; steps = 0 }
          ∷ record { number = 0; used = 14; written = bytes "RP\0\0;error_change t1:v [\"ReadOnly\",\"parameter is read only\",{}]\n"; steps = 1 }
          ∷ record { number = 0; used = 15; written = bytes "RP\0\04error_change t1:p [\"BadJSON\",\"data is not JSON\",{}]\n"; steps = 2 }
          ∷ record { number = 0; used = 17; written = bytes "RP\0\0>error_change t1:p [\"WrongType\",\"value has the wrong type\",{}]\n"; steps = 2 }
          ∷ record { number = 0; used = 15; written = bytes "RP\0\0<error_change t1:p [\"RangeError\",\"value is out of range\",{}]\n"; steps = 2 }
          ∷ record { number = 0; used = 10; written = bytes "RP\0\0\u{1b}reply t1:p [3,{\"t\":1.000}]\n"; steps = 2 }
          ∷ [];
    }

unfoldable pub history_28 : History
history_28 =
    record {
      table = bytes "ND\u{1}s\0MO\u{2}t1\0PA\u{1}s\0\0\u{8}\u{2}\u{1}a\u{3}\u{1}b\u{2}\0\0\0\0\0\0\0\0\0\0\0\0\0\0\0\t\0\u{10}{\"a\":true,\"b\":1}EN";
      area = 16384;
      time = 1000;
      start = 0;
      calls =
          with_area (Open 0 2000) 16384
          ∷ with_outbox (Piece 0 (bytes "change t1:s {\"b\":2,\"a\":false}\n") 3000) 16384 32768
          ∷ with_outbox (Piece 0 (bytes "change t1:s {\"a\":true,\"a\":true}\n") 4000) 16384 32768
          ∷ with_outbox (Piece 0 (bytes "change t1:s {\"a\":true,\"b\":1,\"b\":1}\n") 5000) 16384 32768
          ∷ with_outbox (Piece 0 (bytes "change t1:s {\"a\":true,\"b\":1,\"c\":1}\n") 6000) 16384 32768
          ∷ with_outbox (Piece 0 (bytes "change t1:s {\"a\":true}\n") 7000) 16384 32768
          ∷ with_outbox (Piece 0 (bytes "read t1:s\n") 8000) 16384 32768
          ∷ [];
      due =
          record { number = 0; used = 0; written = bytes ""; steps = 0 }
          ∷ record { number = 0; used = 30; written = bytes "DR\0\0\u{12}\0{\"b\":2,\"a\":false}RP\0\0-changed t1:s [{\"b\":2,\"a\":false},{\"t\":3.000}]\n"; steps = 1 }
          ∷ record { number = 0; used = 32; written = bytes "RP\0\0>error_change t1:s [\"WrongType\",\"value has the wrong type\",{}]\n"; steps = 1 }
          ∷ record { number = 0; used = 35; written = bytes "RP\0\0>error_change t1:s [\"WrongType\",\"value has the wrong type\",{}]\n"; steps = 1 }
          ∷ record { number = 0; used = 35; written = bytes "RP\0\0>error_change t1:s [\"WrongType\",\"value has the wrong type\",{}]\n"; steps = 1 }
          ∷ record { number = 0; used = 23; written = bytes "RP\0\0>error_change t1:s [\"WrongType\",\"value has the wrong type\",{}]\n"; steps = 1 }
          ∷ record { number = 0; used = 10; written = bytes "RP\0\0+reply t1:s [{\"b\":2,\"a\":false},{\"t\":3.000}]\n"; steps = 1 }
          ∷ [];
    }

unfoldable pub history_29 : History
history_29 =
    record {
      table = bytes "ND\u{1}s\0MO\u{2}t1\0PA\u{1}u\0\0\u{7}\u{2}\u{3}\u{2}\0\0\0\0\0\0\0\0\0\0\0\0\0\0\0\t\0\u{8}[true,1]PA\u{1}l\0\0\u{6}\0\0\0\u{2}\u{3}\0\u{2}[]EN";
      area = 16384;
      time = 1000;
      start = 0;
      calls =
          with_area (Open 0 2000) 16384
          ∷ with_outbox (Piece 0 (bytes "change t1:u [true]\n") 3000) 16384 32768
          ∷ with_outbox (Piece 0 (bytes "change t1:u [true,1,2]\n") 4000) 16384 32768
          ∷ with_outbox (Piece 0 (bytes "change t1:l [true,true,1]\n") 5000) 16384 32768
          ∷ with_outbox (Piece 0 (bytes "change t1:l [true,true,true]\n") 6000) 16384 32768
          ∷ with_outbox (Piece 0 (bytes "change t1:l [ true , false ]\n") 7000) 16384 32768
          ∷ [];
      due =
          record { number = 0; used = 0; written = bytes ""; steps = 0 }
          ∷ record { number = 0; used = 19; written = bytes "RP\0\0>error_change t1:u [\"WrongType\",\"value has the wrong type\",{}]\n"; steps = 1 }
          ∷ record { number = 0; used = 23; written = bytes "RP\0\0>error_change t1:u [\"WrongType\",\"value has the wrong type\",{}]\n"; steps = 1 }
          ∷ record { number = 0; used = 26; written = bytes "RP\0\0>error_change t1:l [\"WrongType\",\"value has the wrong type\",{}]\n"; steps = 2 }
          ∷ record { number = 0; used = 29; written = bytes "RP\0\0<error_change t1:l [\"RangeError\",\"value is out of range\",{}]\n"; steps = 2 }
          ∷ record { number = 0; used = 29; written = bytes "DR\0\0\r\u{1}[true,false]RP\0\0(changed t1:l [[true,false],{\"t\":7.000}]\n"; steps = 2 }
          ∷ [];
    }

unfoldable pub history_30 : History
history_30 =
    record {
      table = bytes "ND\u{1}s\0MO\u{2}t1\0PA\u{1}l\0\0\u{5}\0\0\0\u{2}\0\u{2}\"\"EN";
      area = 16384;
      time = 1000;
      start = 0;
      calls =
          with_area (Open 0 2000) 16384
          ∷ with_outbox (Piece 0 (bytes "change t1:l \"\\n\\u0041\"\n") 3000) 16384 32768
          ∷ with_outbox (Piece 0 (bytes "change t1:l \"\\n\\n\\n\"\n") 4000) 16384 32768
          ∷ with_outbox (Piece 0 (bytes "change t1:l \"\\u0080\"\n") 5000) 16384 32768
          ∷ with_outbox (Piece 0 (bytes "change t1:l \"\\u007F\"\n") 6000) 16384 32768
          ∷ [];
      due =
          record { number = 0; used = 0; written = bytes ""; steps = 0 }
          ∷ record { number = 0; used = 23; written = bytes "DR\0\0\u{b}\0\"\\n\\u0041\"RP\0\0&changed t1:l [\"\\n\\u0041\",{\"t\":3.000}]\n"; steps = 1 }
          ∷ record { number = 0; used = 21; written = bytes "RP\0\0<error_change t1:l [\"RangeError\",\"value is out of range\",{}]\n"; steps = 1 }
          ∷ record { number = 0; used = 21; written = bytes "RP\0\0<error_change t1:l [\"RangeError\",\"value is out of range\",{}]\n"; steps = 1 }
          ∷ record { number = 0; used = 21; written = bytes "DR\0\0\t\0\"\\u007F\"RP\0\0$changed t1:l [\"\\u007F\",{\"t\":6.000}]\n"; steps = 1 }
          ∷ [];
    }

unfoldable pub history_31 : History
history_31 =
    record {
      table = bytes "ND\u{1}s\0MO\u{2}t1\0PA\u{1}l\0\0\u{5}\0\0\u{1},\0\u{2}\"\"EN";
      area = 16384;
      time = 1000;
      start = 0;
      calls =
          with_area (Open 0 2000) 16384
          ∷ with_outbox (Piece 0 (bytes "change t1:l  \"xxxxxxxxxxxxxxxxxxxxxxxxxxxxxxxxxxxxxxxxxxxxxxxxxxxxxxxxxxxxxxxxxxxxxxxxxxxxxxxxxxxxxxxxxxxxxxxxxxxxxxxxxxxxxxxxxxxxxxxxxxxxxxxxxxxxxxxxxxxxxxxxxxxxxxxxxxxxxxxxxxxxxxxxxxxxxxxxxxxxxxxxxxxxxxxxxxxxxxxxxxxxxxxxxxxxxxxxxxxxxxxxxxxxxxxxxxxxxxxxxxxxxxxxxxxxxx\" \n") 3000) 16384 32768
          ∷ with_outbox (Piece 0 (bytes "change t1:l  \"xxxxxxxxxxxxxxxxxxxxxxxxxxxxxxxxxxxxxxxxxxxxxxxxxxxxxxxxxxxxxxxxxxxxxxxxxxxxxxxxxxxxxxxxxxxxxxxxxxxxxxxxxxxxxxxxxxxxxxxxxxxxxxxxxxxxxxxxxxxxxxxxxxxxxxxxxxxxxxxxxxxxxxxxxxxxxxxxxxxxxxxxxxxxxxxxxxxxxxxxxxxxxxxxxxxxxxxxxxxxxxxxxxxxxxxxxxxxxxxxxxxxxxxxxxxxxxx\" \n") 4000) 16384 32768
          ∷ with_outbox (Piece 0 (bytes "read t1:l\n") 5000) 16384 32768
          ∷ [];
      due =
          record { number = 0; used = 0; written = bytes ""; steps = 0 }
          ∷ record { number = 0; used = 271; written = bytes "DR\0\u{1}\u{1}\0\"xxxxxxxxxxxxxxxxxxxxxxxxxxxxxxxxxxxxxxxxxxxxxxxxxxxxxxxxxxxxxxxxxxxxxxxxxxxxxxxxxxxxxxxxxxxxxxxxxxxxxxxxxxxxxxxxxxxxxxxxxxxxxxxxxxxxxxxxxxxxxxxxxxxxxxxxxxxxxxxxxxxxxxxxxxxxxxxxxxxxxxxxxxxxxxxxxxxxxxxxxxxxxxxxxxxxxxxxxxxxxxxxxxxxxxxxxxxxxxxxxxxxxxxxxxxxxx\"RP\0\u{1}\u{1c}changed t1:l [\"xxxxxxxxxxxxxxxxxxxxxxxxxxxxxxxxxxxxxxxxxxxxxxxxxxxxxxxxxxxxxxxxxxxxxxxxxxxxxxxxxxxxxxxxxxxxxxxxxxxxxxxxxxxxxxxxxxxxxxxxxxxxxxxxxxxxxxxxxxxxxxxxxxxxxxxxxxxxxxxxxxxxxxxxxxxxxxxxxxxxxxxxxxxxxxxxxxxxxxxxxxxxxxxxxxxxxxxxxxxxxxxxxxxxxxxxxxxxxxxxxxxxxxxxxxxxxx\",{\"t\":3.000}]\n"; steps = 1 }
          ∷ record { number = 0; used = 272; written = bytes "RP\0\0<error_change t1:l [\"RangeError\",\"value is out of range\",{}]\n"; steps = 1 }
          ∷ record { number = 0; used = 10; written = bytes "RP\0\u{1}\u{1a}reply t1:l [\"xxxxxxxxxxxxxxxxxxxxxxxxxxxxxxxxxxxxxxxxxxxxxxxxxxxxxxxxxxxxxxxxxxxxxxxxxxxxxxxxxxxxxxxxxxxxxxxxxxxxxxxxxxxxxxxxxxxxxxxxxxxxxxxxxxxxxxxxxxxxxxxxxxxxxxxxxxxxxxxxxxxxxxxxxxxxxxxxxxxxxxxxxxxxxxxxxxxxxxxxxxxxxxxxxxxxxxxxxxxxxxxxxxxxxxxxxxxxxxxxxxxxxxxxxxxxxx\",{\"t\":3.000}]\n"; steps = 1 }
          ∷ [];
    }

unfoldable pub history_32 : History
history_32 =
    record {
      table = bytes "ND\u{1}s\0MO\u{2}t1\0PA\u{1}d\0\0\u{1}\0\0\0\0\0\0\0\0\0\0\0\0\0\0\0\0\u{1}\0\0\u{1}1EN";
      area = 16384;
      time = 1000;
      start = 0;
      calls =
          with_area (Open 0 2000) 16384
          ∷ with_outbox (Piece 0 (bytes "change t1:d 0.000000000000000000000000000000\n") 3000) 16384 32768
          ∷ with_outbox (Piece 0 (bytes "change t1:d 0.0000000000000000000000000000000\n") 4000) 16384 32768
          ∷ with_outbox (Piece 0 (bytes "change t1:d 0e99\n") 5000) 16384 32768
          ∷ with_outbox (Piece 0 (bytes "change t1:d 0e100\n") 6000) 16384 32768
          ∷ with_outbox (Piece 0 (bytes "change t1:d 1e-99\n") 7000) 16384 32768
          ∷ with_outbox (Piece 0 (bytes "change t1:d 1e-100\n") 8000) 16384 32768
          ∷ [];
      due =
          record { number = 0; used = 0; written = bytes ""; steps = 0 }
          ∷ record { number = 0; used = 45; written = bytes "DR\0\0!\00.000000000000000000000000000000RP\0\0<changed t1:d [0.000000000000000000000000000000,{\"t\":3.000}]\n"; steps = 1 }
          ∷ record { number = 0; used = 46; written = bytes "RP\0\0<error_change t1:d [\"RangeError\",\"value is out of range\",{}]\n"; steps = 1 }
          ∷ record { number = 0; used = 17; written = bytes "DR\0\0\u{5}\00e99RP\0\0 changed t1:d [0e99,{\"t\":5.000}]\n"; steps = 1 }
          ∷ record { number = 0; used = 18; written = bytes "RP\0\0<error_change t1:d [\"RangeError\",\"value is out of range\",{}]\n"; steps = 1 }
          ∷ record { number = 0; used = 18; written = bytes "DR\0\0\u{6}\01e-99RP\0\0!changed t1:d [1e-99,{\"t\":7.000}]\n"; steps = 1 }
          ∷ record { number = 0; used = 19; written = bytes "RP\0\0<error_change t1:d [\"RangeError\",\"value is out of range\",{}]\n"; steps = 1 }
          ∷ [];
    }

unfoldable pub history_33 : History
history_33 =
    record {
      table = bytes "ND\u{1}s\0MO\u{2}t1\0PA\u{1}p\0\0\u{2}\0\0\0\0\0\0\0\0\0\0\0\0\0\0\0\t\0\u{1}3PA\u{1}m\0\0\u{4}\u{2}\u{3}off\0\0\0\0\u{2}on\0\0\0\u{1}\0\u{1}1EN";
      area = 16384;
      time = 1000;
      start = 0;
      calls =
          with_area (Open 0 2000) 16384
          ∷ with_outbox (Piece 0 (bytes "change t1:p -0\n") 3000) 16384 32768
          ∷ with_outbox (Piece 0 (bytes "change t1:m -0\n") 4000) 16384 32768
          ∷ with_outbox (Piece 0 (bytes "change t1:m 2\n") 5000) 16384 32768
          ∷ with_outbox (Piece 0 (bytes "read t1:m\n") 6000) 16384 32768
          ∷ [];
      due =
          record { number = 0; used = 0; written = bytes ""; steps = 0 }
          ∷ record { number = 0; used = 15; written = bytes "DR\0\0\u{3}\0-0RP\0\0\u{1e}changed t1:p [-0,{\"t\":3.000}]\n"; steps = 1 }
          ∷ record { number = 0; used = 15; written = bytes "DR\0\0\u{3}\u{1}-0RP\0\0\u{1e}changed t1:m [-0,{\"t\":4.000}]\n"; steps = 2 }
          ∷ record { number = 0; used = 14; written = bytes "RP\0\0<error_change t1:m [\"RangeError\",\"value is out of range\",{}]\n"; steps = 2 }
          ∷ record { number = 0; used = 10; written = bytes "RP\0\0\u{1c}reply t1:m [-0,{\"t\":4.000}]\n"; steps = 2 }
          ∷ [];
    }

unfoldable pub history_34 : History
history_34 =
    record {
      table = bytes "ND\u{1}s\0MO\u{2}t1\0PA\u{1}m\0\0\u{4}\u{2}\u{3}off\0\0\0\0\u{2}onÿÿÿö\0\u{1}0CM\u{2}go\0\u{1}\u{4}\u{2}\u{3}off\0\0\0\0\u{2}onÿÿÿöEN";
      area = 16384;
      time = 1000;
      start = 0;
      calls =
          with_area (Open 0 2000) 16384
          ∷ with_outbox (Piece 0 (bytes "activate\n") 3000) 16384 32768
          ∷ with_outbox (Piece 0 (bytes "change t1:m \"on\"\n") 4000) 16384 32768
          ∷ with_outbox (Piece 0 (bytes "change t1:m \"On\"\n") 5000) 16384 32768
          ∷ with_outbox (Piece 0 (bytes "change t1:m \"\\u006fn\"\n") 6000) 16384 32768
          ∷ with_outbox (Piece 0 (bytes "change t1:m true\n") 7000) 16384 32768
          ∷ with_outbox (Piece 0 (bytes "do t1:go  \"on\" \n") 8000) 16384 32768
          ∷ with_outbox (Reading 0 (bytes "\"off\"") 9000) 16384 32768
          ∷ with_outbox (Reading 0 (bytes "\"\"") 10000) 16384 32768
          ∷ with_outbox (Piece 0 (bytes "read t1:m\n") 11000) 16384 32768
          ∷ [];
      due =
          record { number = 0; used = 0; written = bytes ""; steps = 0 }
          ∷ record { number = 0; used = 9; written = bytes "UP\0\0\u{1c}update t1:m [0,{\"t\":1.000}]\nRP\0\0\u{7}active\n"; steps = 0 }
          ∷ record { number = 0; used = 17; written = bytes "DR\0\0\u{4}\0-10UP\0\0\u{1e}update t1:m [-10,{\"t\":4.000}]\nRP\0\0\u{1f}changed t1:m [-10,{\"t\":4.000}]\n"; steps = 1 }
          ∷ record { number = 0; used = 17; written = bytes "RP\0\0<error_change t1:m [\"RangeError\",\"value is out of range\",{}]\n"; steps = 1 }
          ∷ record { number = 0; used = 22; written = bytes "RP\0\0<error_change t1:m [\"RangeError\",\"value is out of range\",{}]\n"; steps = 1 }
          ∷ record { number = 0; used = 17; written = bytes "RP\0\0>error_change t1:m [\"WrongType\",\"value has the wrong type\",{}]\n"; steps = 1 }
          ∷ record { number = 0; used = 16; written = bytes "DC\0\0\u{4}\0-10RP\0\0\u{1e}done t1:go [null,{\"t\":8.000}]\n"; steps = 2 }
          ∷ record { number = 0; used = 0; written = bytes "UP\0\0\u{1c}update t1:m [0,{\"t\":9.000}]\n"; steps = 0 }
          ∷ record { number = 15; used = 0; written = bytes ""; steps = 0 }
          ∷ record { number = 0; used = 10; written = bytes "RP\0\0\u{1b}reply t1:m [0,{\"t\":9.000}]\n"; steps = 1 }
          ∷ [];
    }

unfoldable pub history_35 : History
history_35 =
    record {
      table = bytes "ND\u{1}s\0MO\u{2}t1\0PA\u{1}s\0\0\u{8}\u{2}\u{2}on\u{5}\0\0\0\t\u{1}l\u{6}\0\0\0\u{2}\u{4}\u{1}\u{2}on\0\0\0\u{1}\0\u{10}{\"on\":\"\",\"l\":[]}EN";
      area = 16384;
      time = 1000;
      start = 0;
      calls =
          with_area (Open 0 2000) 16384
          ∷ with_outbox (Piece 0 (bytes "change t1:s {\"l\":[\"on\",1],\"on\":\"on\"}\n") 3000) 16384 32768
          ∷ with_outbox (Piece 0 (bytes "change t1:s {\"l\":[\"on\",\"no\"],\"on\":\"on\"}\n") 4000) 16384 32768
          ∷ with_outbox (Piece 0 (bytes "change t1:s {\"l\":[\"no\"],\"on\":1}\n") 5000) 16384 32768
          ∷ with_outbox (Piece 0 (bytes "read t1:s\n") 6000) 16384 32768
          ∷ [];
      due =
          record { number = 0; used = 0; written = bytes ""; steps = 0 }
          ∷ record { number = 0; used = 37; written = bytes "DR\0\0\u{16}\0{\"l\":[1,1],\"on\":\"on\"}RP\0\01changed t1:s [{\"l\":[1,1],\"on\":\"on\"},{\"t\":3.000}]\n"; steps = 1 }
          ∷ record { number = 0; used = 40; written = bytes "RP\0\0<error_change t1:s [\"RangeError\",\"value is out of range\",{}]\n"; steps = 1 }
          ∷ record { number = 0; used = 32; written = bytes "RP\0\0>error_change t1:s [\"WrongType\",\"value has the wrong type\",{}]\n"; steps = 1 }
          ∷ record { number = 0; used = 10; written = bytes "RP\0\0/reply t1:s [{\"l\":[1,1],\"on\":\"on\"},{\"t\":3.000}]\n"; steps = 1 }
          ∷ [];
    }

unfoldable pub history_36 : History
history_36 =
    record {
      table = bytes "ND\u{1}s\0MO\u{2}t1\0PA\u{1}l\0\0\u{6}\0\0\u{1},\u{4}\u{4}\u{1}a\u{80}\0\0\0\tone_digit\0\0\0\u{7}\u{1}b\0\0\0\n\u{1}c\0\0\0d\0\u{2}[]EN";
      area = 16384;
      time = 1000;
      start = 0;
      calls =
          with_area (Open 0 2000) 16384
          ∷ with_outbox (Piece 0 (bytes "change t1:l [\"a\",\"a\",\"a\",\"a\",\"a\",\"a\",\"a\",\"a\",\"a\",\"a\",\"a\",\"a\",\"a\",\"a\",\"a\",\"a\",\"a\",\"a\",\"a\",\"a\",\"a\",\"b\"]\n") 3000) 16384 32768
          ∷ with_outbox (Piece 0 (bytes "change t1:l [\"a\",\"a\",\"a\",\"a\",\"a\",\"a\",\"a\",\"a\",\"a\",\"a\",\"a\",\"a\",\"a\",\"a\",\"a\",\"a\",\"a\",\"a\",\"a\",\"a\",\"a\",\"c\"]\n") 4000) 16384 32768
          ∷ with_outbox (Piece 0 (bytes "change t1:l [\"one_digit\",7,\"one_digit\",7,\"one_digit\",7,\"one_digit\",7,\"one_digit\",7,\"one_digit\",7,\"one_digit\",7,\"one_digit\",7,\"one_digit\",7,\"one_digit\",7,\"one_digit\",7,\"one_digit\",7,\"one_digit\",7,\"one_digit\",7,\"one_digit\",7,\"one_digit\",7,\"one_digit\",7,\"one_digit\",7,\"one_digit\",7,\"one_digit\",7,\"one_digit\",7,\"one_digit\",7,\"one_digit\",7,\"one_digit\",7,\"one_digit\",7,\"one_digit\",7,\"one_digit\",7,\"one_digit\",7,\"one_digit\",7,\"one_digit\",7,\"one_digit\",7,\"one_digit\",7,\"one_digit\",7,\"one_digit\",7,\"one_digit\",7,\"one_digit\",7,\"one_digit\",7,\"one_digit\",7,\"one_digit\",7,\"one_digit\",7,\"one_digit\",7,\"one_digit\",7,\"one_digit\",7,\"one_digit\",7,\"one_digit\",7,\"one_digit\",7,\"one_digit\",7,\"one_digit\",7,\"one_digit\",7,\"one_digit\",7,7,7,7,7,7,7,7,7,7,7,7,7,7,7,7,7,7,7,7,7,7,7,7,7,7,7,10]\n") 5000) 16384 32768
          ∷ with_outbox (Piece 0 (bytes "change t1:l [\"one_digit\",7,\"one_digit\",7,\"one_digit\",7,\"one_digit\",7,\"one_digit\",7,\"one_digit\",7,\"one_digit\",7,\"one_digit\",7,\"one_digit\",7,\"one_digit\",7,\"one_digit\",7,\"one_digit\",7,\"one_digit\",7,\"one_digit\",7,\"one_digit\",7,\"one_digit\",7,\"one_digit\",7,\"one_digit\",7,\"one_digit\",7,\"one_digit\",7,\"one_digit\",7,\"one_digit\",7,\"one_digit\",7,\"one_digit\",7,\"one_digit\",7,\"one_digit\",7,\"one_digit\",7,\"one_digit\",7,\"one_digit\",7,\"one_digit\",7,\"one_digit\",7,\"one_digit\",7,\"one_digit\",7,\"one_digit\",7,\"one_digit\",7,\"one_digit\",7,\"one_digit\",7,\"one_digit\",7,\"one_digit\",7,\"one_digit\",7,\"one_digit\",7,\"one_digit\",7,\"one_digit\",7,\"one_digit\",7,\"one_digit\",7,\"one_digit\",7,\"one_digit\",7,\"one_digit\",7,\"one_digit\",7,\"one_digit\",7,7,7,7,7,7,7,7,7,7,7,7,7,7,7,7,7,7,7,7,7,7,7,7,7,7,7,\"c\"]\n") 6000) 16384 32768
          ∷ with_outbox (Piece 0 (bytes "read t1:l\n") 7000) 16384 32768
          ∷ [];
      due =
          record { number = 0; used = 0; written = bytes ""; steps = 0 }
          ∷ record { number = 0; used = 102; written = bytes "DR\0\u{1}\u{1}\0[-2147483648,-2147483648,-2147483648,-2147483648,-2147483648,-2147483648,-2147483648,-2147483648,-2147483648,-2147483648,-2147483648,-2147483648,-2147483648,-2147483648,-2147483648,-2147483648,-2147483648,-2147483648,-2147483648,-2147483648,-2147483648,10]RP\0\u{1}\u{1c}changed t1:l [[-2147483648,-2147483648,-2147483648,-2147483648,-2147483648,-2147483648,-2147483648,-2147483648,-2147483648,-2147483648,-2147483648,-2147483648,-2147483648,-2147483648,-2147483648,-2147483648,-2147483648,-2147483648,-2147483648,-2147483648,-2147483648,10],{\"t\":3.000}]\n"; steps = 1 }
          ∷ record { number = 0; used = 102; written = bytes "RP\0\0<error_change t1:l [\"RangeError\",\"value is out of range\",{}]\n"; steps = 1 }
          ∷ record { number = 0; used = 769; written = bytes "DR\0\u{1}\u{1}\0[7,7,7,7,7,7,7,7,7,7,7,7,7,7,7,7,7,7,7,7,7,7,7,7,7,7,7,7,7,7,7,7,7,7,7,7,7,7,7,7,7,7,7,7,7,7,7,7,7,7,7,7,7,7,7,7,7,7,7,7,7,7,7,7,7,7,7,7,7,7,7,7,7,7,7,7,7,7,7,7,7,7,7,7,7,7,7,7,7,7,7,7,7,7,7,7,7,7,7,7,7,7,7,7,7,7,7,7,7,7,7,7,7,7,7,7,7,7,7,7,7,7,7,7,7,7,10]RP\0\u{1}\u{1c}changed t1:l [[7,7,7,7,7,7,7,7,7,7,7,7,7,7,7,7,7,7,7,7,7,7,7,7,7,7,7,7,7,7,7,7,7,7,7,7,7,7,7,7,7,7,7,7,7,7,7,7,7,7,7,7,7,7,7,7,7,7,7,7,7,7,7,7,7,7,7,7,7,7,7,7,7,7,7,7,7,7,7,7,7,7,7,7,7,7,7,7,7,7,7,7,7,7,7,7,7,7,7,7,7,7,7,7,7,7,7,7,7,7,7,7,7,7,7,7,7,7,7,7,7,7,7,7,7,7,10],{\"t\":5.000}]\n"; steps = 1 }
          ∷ record { number = 0; used = 770; written = bytes "RP\0\0<error_change t1:l [\"RangeError\",\"value is out of range\",{}]\n"; steps = 1 }
          ∷ record { number = 0; used = 10; written = bytes "RP\0\u{1}\u{1a}reply t1:l [[7,7,7,7,7,7,7,7,7,7,7,7,7,7,7,7,7,7,7,7,7,7,7,7,7,7,7,7,7,7,7,7,7,7,7,7,7,7,7,7,7,7,7,7,7,7,7,7,7,7,7,7,7,7,7,7,7,7,7,7,7,7,7,7,7,7,7,7,7,7,7,7,7,7,7,7,7,7,7,7,7,7,7,7,7,7,7,7,7,7,7,7,7,7,7,7,7,7,7,7,7,7,7,7,7,7,7,7,7,7,7,7,7,7,7,7,7,7,7,7,7,7,7,7,7,7,10],{\"t\":5.000}]\n"; steps = 1 }
          ∷ [];
    }

unfoldable pub history_37 : History
history_37 =
    record {
      table = bytes "ND\u{1}s\0MO\u{2}t1\0PA\u{1}s\0\0\t\0\0\0\0\0\0\0\u{19}üÿÿÿÿÿÿÿû\u{7f}ÿÿÿÿÿÿÿ\0\u{2}-0EN";
      area = 16384;
      time = 1000;
      start = 0;
      calls =
          with_area (Open 0 2000) 16384
          ∷ with_outbox (Piece 0 (bytes "change t1:s -5\n") 3000) 16384 32768
          ∷ with_outbox (Piece 0 (bytes "change t1:s 9223372036854775807\n") 4000) 16384 32768
          ∷ with_outbox (Piece 0 (bytes "change t1:s -6\n") 5000) 16384 32768
          ∷ with_outbox (Piece 0 (bytes "change t1:s 9223372036854775808\n") 6000) 16384 32768
          ∷ with_outbox (Piece 0 (bytes "change t1:s 1.0\n") 7000) 16384 32768
          ∷ with_outbox (Piece 0 (bytes "change t1:s 1e0\n") 8000) 16384 32768
          ∷ with_outbox (Piece 0 (bytes "change t1:s \"1\"\n") 9000) 16384 32768
          ∷ with_outbox (Piece 0 (bytes "read t1:s\n") 10000) 16384 32768
          ∷ [];
      due =
          record { number = 0; used = 0; written = bytes ""; steps = 0 }
          ∷ record { number = 0; used = 15; written = bytes "DR\0\0\u{3}\0-5RP\0\0\u{1e}changed t1:s [-5,{\"t\":3.000}]\n"; steps = 1 }
          ∷ record { number = 0; used = 32; written = bytes "DR\0\0\u{14}\09223372036854775807RP\0\0/changed t1:s [9223372036854775807,{\"t\":4.000}]\n"; steps = 1 }
          ∷ record { number = 0; used = 15; written = bytes "RP\0\0<error_change t1:s [\"RangeError\",\"value is out of range\",{}]\n"; steps = 1 }
          ∷ record { number = 0; used = 32; written = bytes "RP\0\0<error_change t1:s [\"RangeError\",\"value is out of range\",{}]\n"; steps = 1 }
          ∷ record { number = 0; used = 16; written = bytes "RP\0\0>error_change t1:s [\"WrongType\",\"value has the wrong type\",{}]\n"; steps = 1 }
          ∷ record { number = 0; used = 16; written = bytes "RP\0\0>error_change t1:s [\"WrongType\",\"value has the wrong type\",{}]\n"; steps = 1 }
          ∷ record { number = 0; used = 16; written = bytes "RP\0\0>error_change t1:s [\"WrongType\",\"value has the wrong type\",{}]\n"; steps = 1 }
          ∷ record { number = 0; used = 10; written = bytes "RP\0\0-reply t1:s [9223372036854775807,{\"t\":4.000}]\n"; steps = 1 }
          ∷ [];
    }

unfoldable pub history_38 : History
history_38 =
    record {
      table = bytes "ND\u{1}s\0MO\u{2}t1\0PA\u{1}b\0\0\n\0\u{1}\0\u{4}\0\u{6}\"AAAA\"EN";
      area = 16384;
      time = 1000;
      start = 0;
      calls =
          with_area (Open 0 2000) 16384
          ∷ with_outbox (Piece 0 (bytes "change t1:b \"Zg==\"\n") 3000) 16384 32768
          ∷ with_outbox (Piece 0 (bytes "change t1:b \"Zm9vYg==\"\n") 4000) 16384 32768
          ∷ with_outbox (Piece 0 (bytes "change t1:b \"Zm9vYmE=\"\n") 5000) 16384 32768
          ∷ with_outbox (Piece 0 (bytes "change t1:b \"\"\n") 6000) 16384 32768
          ∷ with_outbox (Piece 0 (bytes "change t1:b \"Zh==\"\n") 7000) 16384 32768
          ∷ with_outbox (Piece 0 (bytes "change t1:b \"Zg\"\n") 8000) 16384 32768
          ∷ with_outbox (Piece 0 (bytes "change t1:b \"\\u005Ag==\"\n") 9000) 16384 32768
          ∷ with_outbox (Piece 0 (bytes "change t1:b 1\n") 10000) 16384 32768
          ∷ with_outbox (Piece 0 (bytes "read t1:b\n") 11000) 16384 32768
          ∷ [];
      due =
          record { number = 0; used = 0; written = bytes ""; steps = 0 }
          ∷ record { number = 0; used = 19; written = bytes "DR\0\0\u{7}\0\"Zg==\"RP\0\0\"changed t1:b [\"Zg==\",{\"t\":3.000}]\n"; steps = 1 }
          ∷ record { number = 0; used = 23; written = bytes "DR\0\0\u{b}\0\"Zm9vYg==\"RP\0\0&changed t1:b [\"Zm9vYg==\",{\"t\":4.000}]\n"; steps = 1 }
          ∷ record { number = 0; used = 23; written = bytes "RP\0\0<error_change t1:b [\"RangeError\",\"value is out of range\",{}]\n"; steps = 1 }
          ∷ record { number = 0; used = 15; written = bytes "RP\0\0<error_change t1:b [\"RangeError\",\"value is out of range\",{}]\n"; steps = 1 }
          ∷ record { number = 0; used = 19; written = bytes "RP\0\0>error_change t1:b [\"WrongType\",\"value has the wrong type\",{}]\n"; steps = 1 }
          ∷ record { number = 0; used = 17; written = bytes "RP\0\0>error_change t1:b [\"WrongType\",\"value has the wrong type\",{}]\n"; steps = 1 }
          ∷ record { number = 0; used = 24; written = bytes "RP\0\0>error_change t1:b [\"WrongType\",\"value has the wrong type\",{}]\n"; steps = 1 }
          ∷ record { number = 0; used = 14; written = bytes "RP\0\0>error_change t1:b [\"WrongType\",\"value has the wrong type\",{}]\n"; steps = 1 }
          ∷ record { number = 0; used = 10; written = bytes "RP\0\0$reply t1:b [\"Zm9vYg==\",{\"t\":4.000}]\n"; steps = 1 }
          ∷ [];
    }

unfoldable pub history_39 : History
history_39 =
    record {
      table = bytes "ND\u{1}s\0MO\u{2}t1\0CM\u{2}go\0\u{1}\u{8}\u{2}\u{1}s\t\0\0\0\0\0\0\0\u{1}\u{2}\0\0\0\0\0\0\0\0\0\0\0\0\0\0\0\t\u{1}b\u{6}\0\u{1}\0\u{2}\n\0\0\0\u{2}EN";
      area = 16384;
      time = 1000;
      start = 0;
      calls =
          with_area (Open 0 2000) 16384
          ∷ with_outbox (Piece 0 (bytes "describe\n") 3000) 16384 32768
          ∷ with_outbox (Piece 0 (bytes "do t1:go {\"b\":[\"\",\"Zm8=\"],\"s\":9}\n") 4000) 16384 32768
          ∷ with_outbox (Piece 0 (bytes "do t1:go {\"s\":10,\"b\":[\"Zm9=\"]}\n") 5000) 16384 32768
          ∷ with_outbox (Piece 0 (bytes "do t1:go {\"s\":9,\"b\":[\"Zm9v\"]}\n") 6000) 16384 32768
          ∷ [];
      due =
          record { number = 0; used = 0; written = bytes ""; steps = 0 }
          ∷ record { number = 0; used = 9; written = bytes "RP\0\u{1}ndescribing . {\"modules\":{\"t1\":{\"interface_classes\":[],\"description\":\"\",\"accessibles\":{\"go\":{\"description\":\"\",\"datainfo\":{\"type\":\"command\",\"argument\":{\"type\":\"struct\",\"members\":{\"s\":{\"type\":\"scaled\",\"scale\":1e2,\"min\":0,\"max\":9},\"b\":{\"type\":\"array\",\"minlen\":1,\"maxlen\":2,\"members\":{\"type\":\"blob\",\"minbytes\":0,\"maxbytes\":2}}}}}}}}},\"equipment_id\":\"s\",\"description\":\"\"}\n"; steps = 0 }
          ∷ record { number = 0; used = 33; written = bytes "DC\0\0\u{18}\0{\"b\":[\"\",\"Zm8=\"],\"s\":9}RP\0\0\u{1e}done t1:go [null,{\"t\":4.000}]\n"; steps = 1 }
          ∷ record { number = 0; used = 31; written = bytes "RP\0\0;error_do t1:go [\"WrongType\",\"value has the wrong type\",{}]\n"; steps = 1 }
          ∷ record { number = 0; used = 30; written = bytes "RP\0\09error_do t1:go [\"RangeError\",\"value is out of range\",{}]\n"; steps = 1 }
          ∷ [];
    }

unfoldable pub history_40 : History
history_40 =
    record {
      table = bytes "ND\u{1}s\0MO\u{2}t1\0EN";
      area = 16384;
      time = 1000;
      start = 0;
      calls =
          with_area (Open 0 9999999999999) 16384
          ∷ with_area (Open 1 3000) 16383
          ∷ with_area (Open 1 10000000000000) 16384
          ∷ with_area (Open 8 5000) 16384
          ∷ with_area (Open 0 6000) 16384
          ∷ with_area (Close 0 7000) 16383
          ∷ with_area (Close 0 10000000000000) 16384
          ∷ with_area (Close 8 9000) 16384
          ∷ with_area (Close 1 10000) 16384
          ∷ with_area (Close 0 9999999999999) 16384
          ∷ [];
      due =
          record { number = 0; used = 0; written = bytes ""; steps = 0 }
          ∷ record { number = 8; used = 0; written = bytes ""; steps = 0 }
          ∷ record { number = 10; used = 0; written = bytes ""; steps = 0 }
          ∷ record { number = 11; used = 0; written = bytes ""; steps = 0 }
          ∷ record { number = 13; used = 0; written = bytes ""; steps = 0 }
          ∷ record { number = 8; used = 0; written = bytes ""; steps = 0 }
          ∷ record { number = 10; used = 0; written = bytes ""; steps = 0 }
          ∷ record { number = 11; used = 0; written = bytes ""; steps = 0 }
          ∷ record { number = 12; used = 0; written = bytes ""; steps = 0 }
          ∷ record { number = 0; used = 0; written = bytes ""; steps = 0 }
          ∷ [];
    }

unfoldable pub history_41 : History
history_41 =
    record {
      table = bytes "ND\u{1}s\0MO\u{2}t1\0EN";
      area = 16384;
      time = 1000;
      start = 0;
      calls =
          with_area (Open 0 2000) 16384
          ∷ with_outbox (Piece 0 (bytes "ping\n") 3000) 16384 32767
          ∷ with_outbox (Piece 0 (bytes "ping\n") 4000) 16383 32768
          ∷ with_outbox (Piece 0 (bytes "ping\n") 10000000000000) 16384 32768
          ∷ with_outbox (Piece 8 (bytes "ping\n") 6000) 16384 32768
          ∷ with_outbox (Piece 1 (bytes "ping\n") 7000) 16384 32768
          ∷ with_outbox (Piece 0 (bytes "ping\n") 9999999999999) 16384 32768
          ∷ [];
      due =
          record { number = 0; used = 0; written = bytes ""; steps = 0 }
          ∷ record { number = 7; used = 0; written = bytes ""; steps = 0 }
          ∷ record { number = 8; used = 0; written = bytes ""; steps = 0 }
          ∷ record { number = 10; used = 0; written = bytes ""; steps = 0 }
          ∷ record { number = 11; used = 0; written = bytes ""; steps = 0 }
          ∷ record { number = 12; used = 0; written = bytes ""; steps = 0 }
          ∷ record { number = 0; used = 5; written = bytes "RP\0\0\"pong  [null,{\"t\":9999999999.999}]\n"; steps = 0 }
          ∷ [];
    }

unfoldable pub history_42 : History
history_42 =
    record {
      table = bytes "ND\u{1}s\0MO\u{2}t1\0PA\u{1}p\0\0\u{2}\0\0\0\0\0\0\0\0\0\0\0\0\0\0\0\t\0\u{1}3EN";
      area = 16384;
      time = 1000;
      start = 0;
      calls =
          with_area (Open 0 2000) 16384
          ∷ with_outbox (Piece 0 (bytes "activate\n") 3000) 16384 32768
          ∷ with_outbox (Reading 0 (bytes "4") 4000) 16384 32767
          ∷ with_outbox (Reading 0 (bytes "4") 5000) 16383 32768
          ∷ with_outbox (Reading 0 (bytes "4") 10000000000000) 16384 32768
          ∷ with_outbox (Reading 1 (bytes "4") 7000) 16384 32768
          ∷ with_outbox (Reading 0 (bytes "10") 8000) 16384 32768
          ∷ with_outbox (Reading 0 (bytes "") 9000) 16384 32768
          ∷ with_outbox (Piece 0 (bytes "read t1:p\n") 10000) 16384 32768
          ∷ [];
      due =
          record { number = 0; used = 0; written = bytes ""; steps = 0 }
          ∷ record { number = 0; used = 9; written = bytes "UP\0\0\u{1c}update t1:p [3,{\"t\":1.000}]\nRP\0\0\u{7}active\n"; steps = 0 }
          ∷ record { number = 7; used = 0; written = bytes ""; steps = 0 }
          ∷ record { number = 8; used = 0; written = bytes ""; steps = 0 }
          ∷ record { number = 10; used = 0; written = bytes ""; steps = 0 }
          ∷ record { number = 14; used = 0; written = bytes ""; steps = 0 }
          ∷ record { number = 15; used = 0; written = bytes ""; steps = 0 }
          ∷ record { number = 15; used = 0; written = bytes ""; steps = 0 }
          ∷ record { number = 0; used = 10; written = bytes "RP\0\0\u{1b}reply t1:p [3,{\"t\":1.000}]\n"; steps = 1 }
          ∷ [];
    }

unfoldable pub history_43 : History
history_43 =
    record {
      table = bytes "ND\u{1}s\0MO\u{2}t1\0PA\u{1}p\0\0\u{2}\0\0\0\0\0\0\0\0\0\0\0\0\0\0\0\t\0\u{1}3PA\u{1}q\0\0\u{3}\0\u{4}trueMO\u{2}mf\0PA\u{1}r\0\0\u{2}\0\0\0\0\0\0\0\0\0\0\0\0\0\0\0\t\0\u{1}0EN";
      area = 16384;
      time = 1000;
      start = 0;
      calls =
          with_area (Open 0 2000) 16384
          ∷ with_area (Open 2 3000) 16384
          ∷ with_outbox (Piece 2 (bytes "activate t1\n") 4000) 16384 32768
          ∷ with_outbox (Unreadable 0 1 5000) 16384 32768
          ∷ with_outbox (Unreadable 2 2 6000) 16384 32768
          ∷ with_outbox (Piece 0 (bytes "read t1:p\n") 7000) 16384 32768
          ∷ with_outbox (Piece 0 (bytes "read mf:r:x\n") 8000) 16384 32768
          ∷ with_outbox (Piece 0 (bytes "activate\n") 9000) 16384 32768
          ∷ with_outbox (Unreadable 0 3 10000) 16384 32768
          ∷ [];
      due =
          record { number = 0; used = 0; written = bytes ""; steps = 0 }
          ∷ record { number = 0; used = 0; written = bytes ""; steps = 0 }
          ∷ record { number = 0; used = 12; written = bytes "UP\u{2}\0\u{1c}update t1:p [3,{\"t\":1.000}]\nUP\u{2}\0\u{1f}update t1:q [true,{\"t\":1.000}]\nRP\u{2}\0\nactive t1\n"; steps = 0 }
          ∷ record { number = 0; used = 0; written = bytes "UP\u{2}\0@error_update t1:p [\"HardwareError\",\"HardwareError\",{\"t\":5.000}]\n"; steps = 0 }
          ∷ record { number = 0; used = 0; written = bytes ""; steps = 0 }
          ∷ record { number = 0; used = 10; written = bytes "RP\0\0>error_read t1:p [\"HardwareError\",\"HardwareError\",{\"t\":5.000}]\n"; steps = 1 }
          ∷ record { number = 0; used = 12; written = bytes "RP\0\0Lerror_read mf:r:x [\"CommunicationFailed\",\"CommunicationFailed\",{\"t\":6.000}]\n"; steps = 3 }
          ∷ record { number = 0; used = 9; written = bytes "UP\0\0@error_update t1:p [\"HardwareError\",\"HardwareError\",{\"t\":5.000}]\nUP\0\0\u{1f}update t1:q [true,{\"t\":1.000}]\nUP\0\0Lerror_update mf:r [\"CommunicationFailed\",\"CommunicationFailed\",{\"t\":6.000}]\nRP\0\0\u{7}active\n"; steps = 0 }
          ∷ record { number = 0; used = 0; written = bytes "UP\0\0;error_update t1:p [\"ReadFailed\",\"ReadFailed\",{\"t\":10.000}]\nUP\u{2}\0;error_update t1:p [\"ReadFailed\",\"ReadFailed\",{\"t\":10.000}]\n"; steps = 0 }
          ∷ [];
    }

unfoldable pub history_44 : History
history_44 =
    record {
      table = bytes "ND\u{1}s\0MO\u{2}t1\0PA\u{1}p\0\0\u{2}\0\0\0\0\0\0\0\0\0\0\0\0\0\0\0\t\0\u{1}3EN";
      area = 16384;
      time = 1000;
      start = 0;
      calls =
          with_area (Open 0 2000) 16384
          ∷ with_outbox (Unreadable 0 4 3000) 16384 32768
          ∷ with_outbox (Reading 0 (bytes "10") 4000) 16384 32768
          ∷ with_outbox (Piece 0 (bytes "change t1:p true\n") 5000) 16384 32768
          ∷ with_outbox (Piece 0 (bytes "read t1:p\n") 6000) 16384 32768
          ∷ with_outbox (Reading 0 (bytes "3") 7000) 16384 32768
          ∷ with_outbox (Piece 0 (bytes "read t1:p\n") 8000) 16384 32768
          ∷ with_outbox (Unreadable 0 4 9000) 16384 32768
          ∷ with_outbox (Piece 0 (bytes "activate\n") 10000) 16384 32768
          ∷ with_outbox (Piece 0 (bytes "change t1:p 3\n") 11000) 16384 32768
          ∷ [];
      due =
          record { number = 0; used = 0; written = bytes ""; steps = 0 }
          ∷ record { number = 0; used = 0; written = bytes ""; steps = 0 }
          ∷ record { number = 15; used = 0; written = bytes ""; steps = 0 }
          ∷ record { number = 0; used = 17; written = bytes "RP\0\0>error_change t1:p [\"WrongType\",\"value has the wrong type\",{}]\n"; steps = 1 }
          ∷ record { number = 0; used = 10; written = bytes "RP\0\08error_read t1:p [\"OutOfRange\",\"OutOfRange\",{\"t\":3.000}]\n"; steps = 1 }
          ∷ record { number = 0; used = 0; written = bytes ""; steps = 0 }
          ∷ record { number = 0; used = 10; written = bytes "RP\0\0\u{1b}reply t1:p [3,{\"t\":7.000}]\n"; steps = 1 }
          ∷ record { number = 0; used = 0; written = bytes ""; steps = 0 }
          ∷ record { number = 0; used = 9; written = bytes "UP\0\0:error_update t1:p [\"OutOfRange\",\"OutOfRange\",{\"t\":9.000}]\nRP\0\0\u{7}active\n"; steps = 0 }
          ∷ record { number = 0; used = 14; written = bytes "DR\0\0\u{2}\03UP\0\0\u{1d}update t1:p [3,{\"t\":11.000}]\nRP\0\0\u{1e}changed t1:p [3,{\"t\":11.000}]\n"; steps = 1 }
          ∷ [];
    }

unfoldable pub history_45 : History
history_45 =
    record {
      table = bytes "ND\u{1}s\0MO\u{2}t1\0PA\u{1}p\0\0\u{2}\0\0\0\0\0\0\0\0\0\0\0\0\0\0\0\t\0\u{1}3EN";
      area = 16384;
      time = 1000;
      start = 0;
      calls =
          with_area (Open 0 2000) 16384
          ∷ with_outbox (Piece 0 (bytes "activate\n") 3000) 16384 32768
          ∷ with_outbox (Unreadable 0 1 4000) 16384 32767
          ∷ with_outbox (Unreadable 0 1 5000) 16383 32768
          ∷ with_outbox (Unreadable 0 1 10000000000000) 16384 32768
          ∷ with_outbox (Unreadable 1 0 7000) 16384 32768
          ∷ with_outbox (Unreadable 0 0 8000) 16384 32768
          ∷ with_outbox (Unreadable 0 5 9000) 16384 32768
          ∷ with_outbox (Unreadable 0 257 10000) 16384 32768
          ∷ with_outbox (Unreadable 0 4 9999999999999) 16384 32768
          ∷ [];
      due =
          record { number = 0; used = 0; written = bytes ""; steps = 0 }
          ∷ record { number = 0; used = 9; written = bytes "UP\0\0\u{1c}update t1:p [3,{\"t\":1.000}]\nRP\0\0\u{7}active\n"; steps = 0 }
          ∷ record { number = 7; used = 0; written = bytes ""; steps = 0 }
          ∷ record { number = 8; used = 0; written = bytes ""; steps = 0 }
          ∷ record { number = 10; used = 0; written = bytes ""; steps = 0 }
          ∷ record { number = 14; used = 0; written = bytes ""; steps = 0 }
          ∷ record { number = 16; used = 0; written = bytes ""; steps = 0 }
          ∷ record { number = 16; used = 0; written = bytes ""; steps = 0 }
          ∷ record { number = 16; used = 0; written = bytes ""; steps = 0 }
          ∷ record { number = 0; used = 0; written = bytes "UP\0\0Cerror_update t1:p [\"OutOfRange\",\"OutOfRange\",{\"t\":9999999999.999}]\n"; steps = 0 }
          ∷ [];
    }

unfoldable pub history_46 : History
history_46 =
    record {
      table = bytes "ND\u{1}s\0MO\u{2}t1\0PA\u{6}target\0\0\u{2}\0\0\0\0\0\0\0\0\0\0\0\0\0\0\0\t\0\u{1}0PA\u{6}status\0\u{1}\u{7}\u{2}\u{4}\u{2}\u{4}idle\0\0\0d\u{4}busy\0\0\u{1},\u{5}\0\0\0\u{e}\0\u{8}[100,\"\"]EN";
      area = 16384;
      time = 1000;
      start = 0;
      calls =
          with_area (Open 1 2000) 16384
          ∷ with_area (Open 4 3000) 16384
          ∷ with_outbox (Piece 4 (bytes "activate t1\n") 4000) 16384 32768
          ∷ with_outbox (Piece 1 (bytes "change t1:target 5\n") 5000) 16384 32768
          ∷ with_outbox (Piece 1 (bytes "activate t1\n") 6000) 16384 32768
          ∷ with_outbox (Piece 4 (bytes "change t1:target 5\n") 7000) 16384 32768
          ∷ with_outbox (Piece 4 (bytes "change t1:target 10\n") 8000) 16384 32768
          ∷ with_outbox (Reading 1 (bytes "[100,\"there\"]") 9000) 16384 32768
          ∷ with_outbox (Reading 0 (bytes "5") 10000) 16384 32768
          ∷ with_outbox (Piece 1 (bytes "read t1:status\n") 11000) 16384 32768
          ∷ [];
      due =
          record { number = 0; used = 0; written = bytes ""; steps = 0 }
          ∷ record { number = 0; used = 0; written = bytes ""; steps = 0 }
          ∷ record { number = 0; used = 12; written = bytes "UP\u{4}\0!update t1:target [0,{\"t\":1.000}]\nUP\u{4}\0(update t1:status [[100,\"\"],{\"t\":1.000}]\nRP\u{4}\0\nactive t1\n"; steps = 0 }
          ∷ record { number = 0; used = 19; written = bytes "DR\u{1}\0\u{2}\05UP\u{4}\06update t1:status [[300,\"target changed\"],{\"t\":5.000}]\nUP\u{4}\0!update t1:target [5,{\"t\":5.000}]\nRP\u{1}\0\"changed t1:target [5,{\"t\":5.000}]\n"; steps = 1 }
          ∷ record { number = 0; used = 12; written = bytes "UP\u{1}\0!update t1:target [5,{\"t\":5.000}]\nUP\u{1}\06update t1:status [[300,\"target changed\"],{\"t\":5.000}]\nRP\u{1}\0\nactive t1\n"; steps = 0 }
          ∷ record { number = 0; used = 19; written = bytes "DR\u{4}\0\u{2}\05UP\u{1}\06update t1:status [[300,\"target changed\"],{\"t\":7.000}]\nUP\u{4}\06update t1:status [[300,\"target changed\"],{\"t\":7.000}]\nUP\u{1}\0!update t1:target [5,{\"t\":7.000}]\nUP\u{4}\0!update t1:target [5,{\"t\":7.000}]\nRP\u{4}\0\"changed t1:target [5,{\"t\":7.000}]\n"; steps = 1 }
          ∷ record { number = 0; used = 20; written = bytes "RP\u{4}\0Aerror_change t1:target [\"RangeError\",\"value is out of range\",{}]\n"; steps = 1 }
          ∷ record { number = 0; used = 0; written = bytes "UP\u{1}\0-update t1:status [[100,\"there\"],{\"t\":9.000}]\nUP\u{4}\0-update t1:status [[100,\"there\"],{\"t\":9.000}]\n"; steps = 0 }
          ∷ record { number = 0; used = 0; written = bytes "UP\u{1}\0\"update t1:target [5,{\"t\":10.000}]\nUP\u{4}\0\"update t1:target [5,{\"t\":10.000}]\n"; steps = 0 }
          ∷ record { number = 0; used = 15; written = bytes "RP\u{1}\0,reply t1:status [[100,\"there\"],{\"t\":9.000}]\n"; steps = 2 }
          ∷ [];
    }

unfoldable pub history_47 : History
history_47 =
    record {
      table = bytes "ND\u{1}s\0MO\u{1}a\0PA\u{6}target\0\0\u{2}\0\0\0\0\0\0\0\0\0\0\0\0\0\0\0\t\0\u{1}0PA\u{6}status\0\u{1}\u{7}\u{2}\u{4}\u{2}\u{4}idle\0\0\0d\u{4}busy\0\0\u{1},\u{5}\0\0\0\r\0\u{8}[100,\"\"]MO\u{1}b\0PA\u{6}status\0\u{1}\u{7}\u{2}\u{4}\u{1}\u{4}idle\0\0\0d\u{5}\0\0\0\u{14}\0\u{8}[100,\"\"]PA\u{6}target\0\0\u{2}\0\0\0\0\0\0\0\0\0\0\0\0\0\0\0\t\0\u{1}0MO\u{1}c\0PA\u{6}target\0\0\u{2}\0\0\0\0\0\0\0\0\0\0\0\0\0\0\0\t\0\u{1}0PA\u{6}status\0\u{1}\u{8}\u{2}\u{4}code\u{4}\u{2}\u{4}idle\0\0\0d\u{4}busy\0\0\u{1},\u{4}text\u{5}\0\0\0\u{14}\0\u{16}{\"code\":100,\"text\":\"\"}EN";
      area = 16384;
      time = 1000;
      start = 0;
      calls =
          with_area (Open 0 2000) 16384
          ∷ with_outbox (Piece 0 (bytes "activate\n") 3000) 16384 32768
          ∷ with_outbox (Piece 0 (bytes "change a:target 1\n") 4000) 16384 32768
          ∷ with_outbox (Piece 0 (bytes "change b:target 1\n") 5000) 16384 32768
          ∷ with_outbox (Piece 0 (bytes "change c:target 1\n") 6000) 16384 32768
          ∷ with_outbox (Piece 0 (bytes "read a:status\n") 7000) 16384 32768
          ∷ with_outbox (Piece 0 (bytes "read b:status\n") 8000) 16384 32768
          ∷ with_outbox (Piece 0 (bytes "read c:status\n") 9000) 16384 32768
          ∷ [];
      due =
          record { number = 0; used = 0; written = bytes ""; steps = 0 }
          ∷ record { number = 0; used = 9; written = bytes "UP\0\0 update a:target [0,{\"t\":1.000}]\nUP\0\0'update a:status [[100,\"\"],{\"t\":1.000}]\nUP\0\0'update b:status [[100,\"\"],{\"t\":1.000}]\nUP\0\0 update b:target [0,{\"t\":1.000}]\nUP\0\0 update c:target [0,{\"t\":1.000}]\nUP\0\05update c:status [{\"code\":100,\"text\":\"\"},{\"t\":1.000}]\nRP\0\0\u{7}active\n"; steps = 0 }
          ∷ record { number = 0; used = 18; written = bytes "DR\0\0\u{2}\01UP\0\0 update a:target [1,{\"t\":4.000}]\nRP\0\0!changed a:target [1,{\"t\":4.000}]\n"; steps = 1 }
          ∷ record { number = 0; used = 18; written = bytes "DR\0\0\u{2}\u{3}1UP\0\0 update b:target [1,{\"t\":5.000}]\nRP\0\0!changed b:target [1,{\"t\":5.000}]\n"; steps = 4 }
          ∷ record { number = 0; used = 18; written = bytes "DR\0\0\u{2}\u{4}1UP\0\0 update c:target [1,{\"t\":6.000}]\nRP\0\0!changed c:target [1,{\"t\":6.000}]\n"; steps = 5 }
          ∷ record { number = 0; used = 14; written = bytes "RP\0\0&reply a:status [[100,\"\"],{\"t\":1.000}]\n"; steps = 2 }
          ∷ record { number = 0; used = 14; written = bytes "RP\0\0&reply b:status [[100,\"\"],{\"t\":1.000}]\n"; steps = 3 }
          ∷ record { number = 0; used = 14; written = bytes "RP\0\04reply c:status [{\"code\":100,\"text\":\"\"},{\"t\":1.000}]\n"; steps = 6 }
          ∷ [];
    }

unfoldable pub history_48 : History
history_48 =
    record {
      table = bytes "ND\u{1}s\0MO\u{1}a\0PA\u{6}target\0\0\u{2}\0\0\0\0\0\0\0\0\0\0\0\0\0\0\0\t\0\u{1}0PA\u{6}status\0\0\u{7}\u{2}\u{2}\0\0\0\0\0\0\u{1},\0\0\0\0\0\0\u{1},\u{5}\0\u{e}\0\u{e}\0\u{16}[300,\"aaaaaaaaaaaaaa\"]MO\u{1}b\0PA\u{6}target\0\0\u{2}\0\0\0\0\0\0\0\0\0\0\0\0\0\0\0\t\0\u{1}0PA\u{6}status\0\0\u{7}\u{2}\u{2}\0\0\0\0\0\0\0\0\0\0\0\0\0\0\u{1}+\u{5}\0\0\0\u{14}\0\u{6}[0,\"\"]MO\u{1}c\0PA\u{6}target\0\0\u{2}\0\0\0\0\0\0\0\0\0\0\0\0\0\0\0\t\0\u{1}0PA\u{6}status\0\0\u{7}\u{2}\u{4}\u{2}\u{4}idle\0\0\0d\u{4}busy\0\0\u{1},\u{4}\u{2}\u{6}target\0\0\0\u{1}\u{7}changed\0\0\0\u{2}\0\u{7}[100,1]EN";
      area = 16384;
      time = 1000;
      start = 0;
      calls =
          with_area (Open 0 2000) 16384
          ∷ with_outbox (Piece 0 (bytes "activate\n") 3000) 16384 32768
          ∷ with_outbox (Piece 0 (bytes "change a:target 1\n") 4000) 16384 32768
          ∷ with_outbox (Piece 0 (bytes "change b:target 1\n") 5000) 16384 32768
          ∷ with_outbox (Piece 0 (bytes "change c:target 1\n") 6000) 16384 32768
          ∷ with_outbox (Piece 0 (bytes "change a:status [300,\"bbbbbbbbbbbbbb\"]\n") 7000) 16384 32768
          ∷ [];
      due =
          record { number = 0; used = 0; written = bytes ""; steps = 0 }
          ∷ record { number = 0; used = 9; written = bytes "UP\0\0 update a:target [0,{\"t\":1.000}]\nUP\0\05update a:status [[300,\"aaaaaaaaaaaaaa\"],{\"t\":1.000}]\nUP\0\0 update b:target [0,{\"t\":1.000}]\nUP\0\0%update b:status [[0,\"\"],{\"t\":1.000}]\nUP\0\0 update c:target [0,{\"t\":1.000}]\nUP\0\0&update c:status [[100,1],{\"t\":1.000}]\nRP\0\0\u{7}active\n"; steps = 0 }
          ∷ record { number = 0; used = 18; written = bytes "DR\0\0\u{2}\01UP\0\05update a:status [[300,\"target changed\"],{\"t\":4.000}]\nUP\0\0 update a:target [1,{\"t\":4.000}]\nRP\0\0!changed a:target [1,{\"t\":4.000}]\n"; steps = 1 }
          ∷ record { number = 0; used = 18; written = bytes "DR\0\0\u{2}\u{2}1UP\0\0 update b:target [1,{\"t\":5.000}]\nRP\0\0!changed b:target [1,{\"t\":5.000}]\n"; steps = 3 }
          ∷ record { number = 0; used = 18; written = bytes "DR\0\0\u{2}\u{4}1UP\0\0 update c:target [1,{\"t\":6.000}]\nRP\0\0!changed c:target [1,{\"t\":6.000}]\n"; steps = 5 }
          ∷ record { number = 0; used = 39; written = bytes "DR\0\0\u{17}\u{1}[300,\"bbbbbbbbbbbbbb\"]UP\0\05update a:status [[300,\"bbbbbbbbbbbbbb\"],{\"t\":7.000}]\nRP\0\06changed a:status [[300,\"bbbbbbbbbbbbbb\"],{\"t\":7.000}]\n"; steps = 2 }
          ∷ [];
    }

unfoldable pub history_49 : History
history_49 =
    record {
      table = bytes "ND\u{1}s\0MO\u{1}a\0PA\u{6}Target\0\0\u{2}\0\0\0\0\0\0\0\0\0\0\0\0\0\0\0\t\0\u{1}0PA\u{6}status\0\0\u{7}\u{2}\u{4}\u{2}\u{4}idle\0\0\0d\u{4}busy\0\0\u{1},\u{5}\0\0\0\u{e}\0\u{8}[100,\"\"]MO\u{1}b\0PA\u{6}target\0\0\u{2}\0\0\0\0\0\0\0\0\0\0\0\0\0\0\0\t\0\u{1}0PA\u{6}Status\0\0\u{7}\u{2}\u{4}\u{2}\u{4}idle\0\0\0d\u{4}busy\0\0\u{1},\u{5}\0\0\0\u{e}\0\u{8}[100,\"\"]MO\u{1}c\0PA\u{6}target\0\0\u{2}\0\0\0\0\0\0\0\0\0\0\0\0\0\0\0\t\0\u{1}0CM\u{6}status\0\0MO\u{1}d\0PA\u{6}target\0\0\u{2}\0\0\0\0\0\0\0\0\0\0\0\0\0\0\0\t\0\u{1}0EN";
      area = 16384;
      time = 1000;
      start = 0;
      calls =
          with_area (Open 0 2000) 16384
          ∷ with_outbox (Piece 0 (bytes "activate\n") 3000) 16384 32768
          ∷ with_outbox (Piece 0 (bytes "change a:Target 1\n") 4000) 16384 32768
          ∷ with_outbox (Piece 0 (bytes "change b:target 1\n") 5000) 16384 32768
          ∷ with_outbox (Piece 0 (bytes "change c:target 1\n") 6000) 16384 32768
          ∷ with_outbox (Piece 0 (bytes "change d:target 1\n") 7000) 16384 32768
          ∷ with_outbox (Piece 0 (bytes "change a:status [\"busy\",\"\"]\n") 8000) 16384 32768
          ∷ [];
      due =
          record { number = 0; used = 0; written = bytes ""; steps = 0 }
          ∷ record { number = 0; used = 9; written = bytes "UP\0\0 update a:Target [0,{\"t\":1.000}]\nUP\0\0'update a:status [[100,\"\"],{\"t\":1.000}]\nUP\0\0 update b:target [0,{\"t\":1.000}]\nUP\0\0'update b:Status [[100,\"\"],{\"t\":1.000}]\nUP\0\0 update c:target [0,{\"t\":1.000}]\nUP\0\0 update d:target [0,{\"t\":1.000}]\nRP\0\0\u{7}active\n"; steps = 0 }
          ∷ record { number = 0; used = 18; written = bytes "DR\0\0\u{2}\01UP\0\0 update a:Target [1,{\"t\":4.000}]\nRP\0\0!changed a:Target [1,{\"t\":4.000}]\n"; steps = 1 }
          ∷ record { number = 0; used = 18; written = bytes "DR\0\0\u{2}\u{2}1UP\0\0 update b:target [1,{\"t\":5.000}]\nRP\0\0!changed b:target [1,{\"t\":5.000}]\n"; steps = 3 }
          ∷ record { number = 0; used = 18; written = bytes "DR\0\0\u{2}\u{4}1UP\0\0 update c:target [1,{\"t\":6.000}]\nRP\0\0!changed c:target [1,{\"t\":6.000}]\n"; steps = 5 }
          ∷ record { number = 0; used = 18; written = bytes "DR\0\0\u{2}\u{5}1UP\0\0 update d:target [1,{\"t\":7.000}]\nRP\0\0!changed d:target [1,{\"t\":7.000}]\n"; steps = 7 }
          ∷ record { number = 0; used = 28; written = bytes "DR\0\0\t\u{1}[300,\"\"]UP\0\0'update a:status [[300,\"\"],{\"t\":8.000}]\nRP\0\0(changed a:status [[300,\"\"],{\"t\":8.000}]\n"; steps = 2 }
          ∷ [];
    }

unfoldable pub history_50 : History
history_50 =
    record {
      table = bytes "ND\u{1}s\0MO\u{1}a\0PA\u{6}target\0\0\u{2}\0\0\0\0\0\0\0\0\0\0\0\0\0\0\0\t\0\u{1}0PA\u{6}status\0\u{1}\u{7}\u{2}\u{4}\u{2}\u{4}idle\0\0\0d\u{4}busy\0\0\u{1},\u{5}\0\0\0\u{e}\0\u{8}[100,\"\"]MO\u{1}b\0PA\u{6}target\0\0\u{2}\0\0\0\0\0\0\0\0\0\0\0\0\0\0\0\t\0\u{1}0PA\u{6}status\0\u{1}\u{7}\u{2}\u{4}\u{2}\u{4}idle\0\0\0d\u{4}busy\0\0\u{1},\u{5}\0\0\0\r\0\u{8}[100,\"\"]EN";
      area = 16384;
      time = 1000;
      start = 0;
      calls =
          with_area (Open 0 2000) 16384
          ∷ with_outbox (Piece 0 (bytes "activate\n") 3000) 16384 32768
          ∷ with_outbox (Unreadable 1 1 4000) 16384 32768
          ∷ with_outbox (Unreadable 3 2 5000) 16384 32768
          ∷ with_outbox (Piece 0 (bytes "change a:target 1\n") 6000) 16384 32768
          ∷ with_outbox (Piece 0 (bytes "change b:target 1\n") 7000) 16384 32768
          ∷ with_outbox (Piece 0 (bytes "read a:status\n") 8000) 16384 32768
          ∷ with_outbox (Piece 0 (bytes "read b:status\n") 9000) 16384 32768
          ∷ [];
      due =
          record { number = 0; used = 0; written = bytes ""; steps = 0 }
          ∷ record { number = 0; used = 9; written = bytes "UP\0\0 update a:target [0,{\"t\":1.000}]\nUP\0\0'update a:status [[100,\"\"],{\"t\":1.000}]\nUP\0\0 update b:target [0,{\"t\":1.000}]\nUP\0\0'update b:status [[100,\"\"],{\"t\":1.000}]\nRP\0\0\u{7}active\n"; steps = 0 }
          ∷ record { number = 0; used = 0; written = bytes "UP\0\0Derror_update a:status [\"HardwareError\",\"HardwareError\",{\"t\":4.000}]\n"; steps = 0 }
          ∷ record { number = 0; used = 0; written = bytes "UP\0\0Perror_update b:status [\"CommunicationFailed\",\"CommunicationFailed\",{\"t\":5.000}]\n"; steps = 0 }
          ∷ record { number = 0; used = 18; written = bytes "DR\0\0\u{2}\01UP\0\05update a:status [[300,\"target changed\"],{\"t\":6.000}]\nUP\0\0 update a:target [1,{\"t\":6.000}]\nRP\0\0!changed a:target [1,{\"t\":6.000}]\n"; steps = 1 }
          ∷ record { number = 0; used = 18; written = bytes "DR\0\0\u{2}\u{2}1UP\0\0 update b:target [1,{\"t\":7.000}]\nRP\0\0!changed b:target [1,{\"t\":7.000}]\n"; steps = 3 }
          ∷ record { number = 0; used = 14; written = bytes "RP\0\04reply a:status [[300,\"target changed\"],{\"t\":6.000}]\n"; steps = 2 }
          ∷ record { number = 0; used = 14; written = bytes "RP\0\0Nerror_read b:status [\"CommunicationFailed\",\"CommunicationFailed\",{\"t\":5.000}]\n"; steps = 4 }
          ∷ [];
    }

unfoldable pub history_51 : History
history_51 =
    record {
      table = bytes "ND\u{1}s\0MO\u{2}t1\0PA\u{1}p\0\0\u{2}\0\0\0\0\0\0\0\0\0\0\0\0\0\0\0\t\0\u{1}3EN";
      area = 16384;
      time = 1000;
      start = 0;
      calls =
          with_area (Open 0 2000) 16384
          ∷ with_area (Open 1 3000) 16384
          ∷ with_outbox (Piece 0 (bytes "activate\n") 4000) 16384 32768
          ∷ with_outbox (Piece 0 (bytes "_count x y\n") 5000) 16384 32768
          ∷ with_outbox (Piece 1 (bytes "_counts\n") 6000) 16384 32768
          ∷ with_outbox (Unreadable 0 2 7000) 16384 32768
          ∷ with_outbox (Piece 0 (bytes "read t1:p\n") 8000) 16384 32768
          ∷ with_outbox (Piece 0 (bytes "\n") 9000) 16384 32768
          ∷ with_outbox (Piece 0 (bytes "_count\n") 10000) 16384 32768
          ∷ with_outbox (Piece 1 (bytes "_count\n") 11000) 16384 32768
          ∷ [];
      due =
          record { number = 0; used = 0; written = bytes ""; steps = 0 }
          ∷ record { number = 0; used = 0; written = bytes ""; steps = 0 }
          ∷ record { number = 0; used = 9; written = bytes "UP\0\0\u{1c}update t1:p [3,{\"t\":1.000}]\nRP\0\0\u{7}active\n"; steps = 0 }
          ∷ record { number = 0; used = 11; written = bytes "RP\0\0#_counted . [[2,0,1,1],{\"t\":5.000}]\n"; steps = 0 }
          ∷ record { number = 0; used = 8; written = bytes "RP\u{1}\0Cerror__counts  [\"ProtocolError\",\"malformed or unknown request\",{}]\n"; steps = 0 }
          ∷ record { number = 0; used = 0; written = bytes "UP\0\0Lerror_update t1:p [\"CommunicationFailed\",\"CommunicationFailed\",{\"t\":7.000}]\n"; steps = 0 }
          ∷ record { number = 0; used = 10; written = bytes "RP\0\0Jerror_read t1:p [\"CommunicationFailed\",\"CommunicationFailed\",{\"t\":7.000}]\n"; steps = 1 }
          ∷ record { number = 0; used = 1; written = bytes "RP\0\0<error_  [\"ProtocolError\",\"malformed or unknown request\",{}]\n"; steps = 0 }
          ∷ record { number = 0; used = 7; written = bytes "RP\0\0$_counted . [[5,2,2,1],{\"t\":10.000}]\n"; steps = 0 }
          ∷ record { number = 0; used = 7; written = bytes "RP\u{1}\0$_counted . [[2,1,0,0],{\"t\":11.000}]\n"; steps = 0 }
          ∷ [];
    }

unfoldable pub history_52 : History
history_52 =
    record {
      table = bytes "ND\u{1}s\0MO\u{2}t1\0PA\u{1}p\0\0\u{2}\0\0\0\0\0\0\0\0\0\0\0\0\0\0\0\t\0\u{1}3EN";
      area = 16384;
      time = 1000;
      start = 0;
      calls =
          with_area (Open 0 2000) 16384
          ∷ with_outbox (Piece 0 (bytes "activate\n") 3000) 16384 32768
          ∷ with_area (Open 0 4000) 16384
          ∷ with_outbox (Piece 0 (bytes "_count\n") 5000) 16384 32768
          ∷ with_area (Close 0 6000) 16384
          ∷ with_outbox (Reading 0 (bytes "4") 7000) 16384 32768
          ∷ with_area (Open 0 8000) 16384
          ∷ with_outbox (Piece 0 (bytes "_count\n") 9000) 16384 32768
          ∷ [];
      due =
          record { number = 0; used = 0; written = bytes ""; steps = 0 }
          ∷ record { number = 0; used = 9; written = bytes "UP\0\0\u{1c}update t1:p [3,{\"t\":1.000}]\nRP\0\0\u{7}active\n"; steps = 0 }
          ∷ record { number = 13; used = 0; written = bytes ""; steps = 0 }
          ∷ record { number = 0; used = 7; written = bytes "RP\0\0#_counted . [[2,0,1,1],{\"t\":5.000}]\n"; steps = 0 }
          ∷ record { number = 0; used = 0; written = bytes ""; steps = 0 }
          ∷ record { number = 0; used = 0; written = bytes ""; steps = 0 }
          ∷ record { number = 0; used = 0; written = bytes ""; steps = 0 }
          ∷ record { number = 0; used = 7; written = bytes "RP\0\0#_counted . [[1,0,0,0],{\"t\":9.000}]\n"; steps = 0 }
          ∷ [];
    }

unfoldable pub history_53 : History
history_53 =
    record {
      table = bytes "ND\u{1}s\0MO\u{2}t1\0PA\u{1}p\0\0\u{2}\0\0\0\0\0\0\0\0\0\0\0\0\0\0\0\t\0\u{1}3EN";
      area = 16384;
      time = 1000;
      start = 0;
      calls =
          with_area (Open 0 2000) 16384
          ∷ with_area (Open 8 10000000000000) 16383
          ∷ with_area (Open 0 10000000000000) 16384
          ∷ with_area (Close 1 5000) 16383
          ∷ with_outbox (Piece 1 (bytes "ping\n") 6000) 16383 32767
          ∷ with_outbox (Piece 8 (bytes "ping\n") 10000000000000) 16384 32768
          ∷ with_outbox (Reading 1 (bytes "4") 10000000000000) 16384 32767
          ∷ with_outbox (Reading 1 (bytes "") 9000) 16384 32768
          ∷ [];
      due =
          record { number = 0; used = 0; written = bytes ""; steps = 0 }
          ∷ record { number = 8; used = 0; written = bytes ""; steps = 0 }
          ∷ record { number = 10; used = 0; written = bytes ""; steps = 0 }
          ∷ record { number = 8; used = 0; written = bytes ""; steps = 0 }
          ∷ record { number = 7; used = 0; written = bytes ""; steps = 0 }
          ∷ record { number = 10; used = 0; written = bytes ""; steps = 0 }
          ∷ record { number = 7; used = 0; written = bytes ""; steps = 0 }
          ∷ record { number = 14; used = 0; written = bytes ""; steps = 0 }
          ∷ [];
    }

unfoldable pub history_54 : History
history_54 =
    record {
      table = bytes "ND\u{1}s\0MO\u{2}t1\0PA\u{1}p\0\0\u{2}\0\0\0\0\0\0\0\0\0\0\0\0\0\0\0\t\0\u{1}3EN";
      area = 16384;
      time = 10000000000000;
      start = 10;
      calls =
          with_area (Open 0 2000) 16384
          ∷ with_outbox (Piece 0 (bytes "read t1:p\n") 3000) 16384 32768
          ∷ with_outbox (Piece 0 (bytes "change t1:p 4\n") 4000) 16384 32768
          ∷ [];
      due =
          record { number = 0; used = 0; written = bytes ""; steps = 0 }
          ∷ record { number = 0; used = 10; written = bytes "RP\0\0\u{1b}reply t1:p [3,{\"t\":0.000}]\n"; steps = 1 }
          ∷ record { number = 0; used = 14; written = bytes "DR\0\0\u{2}\04RP\0\0\u{1d}changed t1:p [4,{\"t\":4.000}]\n"; steps = 1 }
          ∷ [];
    }

unfoldable pub history_55 : History
history_55 =
    record {
      table = bytes "ND\u{1}s\0MO\u{2}t1\0PA\u{1}p\0\0\u{2}\0\0\0\0\0\0\0\0\0\0\0\0\0\0\0\t\0\u{1}3EN";
      area = 16383;
      time = 1000;
      start = 8;
      calls =
          with_area (Open 0 2000) 16384
          ∷ with_outbox (Piece 0 (bytes "activate\n") 3000) 16384 32768
          ∷ with_outbox (Reading 0 (bytes "4") 4000) 16384 32768
          ∷ [];
      due =
          record { number = 0; used = 0; written = bytes ""; steps = 0 }
          ∷ record { number = 0; used = 9; written = bytes "UP\0\0\u{1c}update t1:p [3,{\"t\":0.000}]\nRP\0\0\u{7}active\n"; steps = 0 }
          ∷ record { number = 0; used = 0; written = bytes "UP\0\0\u{1c}update t1:p [4,{\"t\":4.000}]\n"; steps = 0 }
          ∷ [];
    }

unfoldable pub history_56 : History
history_56 =
    record {
      table = bytes "ND\u{1}s\0MO\u{2}t1\0EN";
      area = 16384;
      time = 1000;
      start = 0;
      calls =
          with_area (Open 0 2000) 16384
          ∷ with_area (Open 1 3000) 16384
          ∷ with_outbox (Piece 0 (bytes "ping a\r") 4000) 16384 32768
          ∷ with_outbox (Piece 1 (bytes "ping b\r\n") 5000) 16384 32768
          ∷ with_outbox (Piece 0 (bytes "\n") 6000) 16384 32768
          ∷ [];
      due =
          record { number = 0; used = 0; written = bytes ""; steps = 0 }
          ∷ record { number = 0; used = 0; written = bytes ""; steps = 0 }
          ∷ record { number = 0; used = 7; written = bytes ""; steps = 0 }
          ∷ record { number = 0; used = 8; written = bytes "RP\u{1}\0\u{1a}pong b [null,{\"t\":5.000}]\n"; steps = 0 }
          ∷ record { number = 0; used = 1; written = bytes "RP\0\0\u{1a}pong a [null,{\"t\":6.000}]\n"; steps = 0 }
          ∷ [];
    }

unfoldable pub history_57 : History
history_57 =
    record {
      table = bytes "ND\u{1}s\0MO\u{2}t1\0EN";
      area = 16384;
      time = 1000;
      start = 0;
      calls =
          with_area (Open 0 2000) 16384
          ∷ with_outbox (Piece 0 (bytes "ping a\nping b\nping") 3000) 16384 32768
          ∷ with_outbox (Piece 0 (bytes "ping b\nping") 4000) 16384 32768
          ∷ with_outbox (Piece 0 (bytes "ping") 5000) 16384 32768
          ∷ with_outbox (Piece 0 (bytes " c\n") 6000) 16384 32768
          ∷ [];
      due =
          record { number = 0; used = 0; written = bytes ""; steps = 0 }
          ∷ record { number = 0; used = 7; written = bytes "RP\0\0\u{1a}pong a [null,{\"t\":3.000}]\n"; steps = 0 }
          ∷ record { number = 0; used = 7; written = bytes "RP\0\0\u{1a}pong b [null,{\"t\":4.000}]\n"; steps = 0 }
          ∷ record { number = 0; used = 4; written = bytes ""; steps = 0 }
          ∷ record { number = 0; used = 3; written = bytes "RP\0\0\u{1a}pong c [null,{\"t\":6.000}]\n"; steps = 0 }
          ∷ [];
    }

unfoldable pub history_58 : History
history_58 =
    record {
      table = bytes "ND\u{1}s\0MO\u{2}t1\0PA\u{1}p\0\0\u{2}\0\0\0\0\0\0\0\0\0\0\0\0\0\0\0\t\0\u{1}3EN";
      area = 16384;
      time = 1000;
      start = 0;
      calls =
          with_area (Open 0 2000) 16384
          ∷ with_outbox (Reading 0 (bytes "4") 9000) 16384 32768
          ∷ with_outbox (Reading 0 (bytes "5") 3000) 16384 32768
          ∷ with_outbox (Piece 0 (bytes "read t1:p\n") 5000) 16384 32768
          ∷ with_outbox (Piece 0 (bytes "change t1:p 6\n") 2500) 16384 32768
          ∷ with_outbox (Piece 0 (bytes "read t1:p\n") 7000) 16384 32768
          ∷ with_outbox (Piece 0 (bytes "ping\n") 5) 16384 32768
          ∷ [];
      due =
          record { number = 0; used = 0; written = bytes ""; steps = 0 }
          ∷ record { number = 0; used = 0; written = bytes ""; steps = 0 }
          ∷ record { number = 0; used = 0; written = bytes ""; steps = 0 }
          ∷ record { number = 0; used = 10; written = bytes "RP\0\0\u{1b}reply t1:p [5,{\"t\":3.000}]\n"; steps = 1 }
          ∷ record { number = 0; used = 14; written = bytes "DR\0\0\u{2}\06RP\0\0\u{1d}changed t1:p [6,{\"t\":2.500}]\n"; steps = 1 }
          ∷ record { number = 0; used = 10; written = bytes "RP\0\0\u{1b}reply t1:p [6,{\"t\":2.500}]\n"; steps = 1 }
          ∷ record { number = 0; used = 5; written = bytes "RP\0\0\u{19}pong  [null,{\"t\":0.005}]\n"; steps = 0 }
          ∷ [];
    }

unfoldable pub history_59 : History
history_59 =
    record {
      table = bytes "ND\u{1}s\0MO\u{2}t1\0NO\u{c}mind the gapPA\u{1}p\0\0\u{2}\0\0\0\0\0\0\0\0\0\0\0\0\0\0\0\t\0\u{1}3MO\u{2}mf\0NO\0EN";
      area = 16384;
      time = 1000;
      start = 0;
      calls =
          with_area (Open 0 2000) 16384
          ∷ with_outbox (Piece 0 (bytes "describe\n") 3000) 16384 32768
          ∷ with_outbox (Piece 0 (bytes "activate t1\n") 4000) 16384 32768
          ∷ with_outbox (Piece 0 (bytes "change t1:p 4\n") 5000) 16384 32768
          ∷ [];
      due =
          record { number = 0; used = 0; written = bytes ""; steps = 0 }
          ∷ record { number = 0; used = 9; written = bytes "RP\0\u{1}\u{10}describing . {\"modules\":{\"t1\":{\"interface_classes\":[],\"description\":\"\",\"accessibles\":{\"p\":{\"description\":\"\",\"readonly\":false,\"datainfo\":{\"type\":\"int\",\"min\":0,\"max\":9}}}},\"mf\":{\"interface_classes\":[],\"description\":\"\",\"accessibles\":{}}},\"equipment_id\":\"s\",\"description\":\"\"}\n"; steps = 0 }
          ∷ record { number = 0; used = 12; written = bytes "UP\0\0\u{1c}update t1:p [3,{\"t\":1.000}]\nRP\0\0\nactive t1\n"; steps = 0 }
          ∷ record { number = 0; used = 14; written = bytes "DR\0\0\u{2}\04UP\0\0\u{1c}update t1:p [4,{\"t\":5.000}]\nRP\0\0\u{1d}changed t1:p [4,{\"t\":5.000}]\n"; steps = 1 }
          ∷ [];
    }

unfoldable pub history_60 : History
history_60 =
    record {
      table = bytes "ND\u{1}s\0ED\u{1b}ISSE,SECoP,V2021-02-17,v2.0MO\u{2}t1\0PA\u{1}p\0\0\u{2}\0\0\0\0\0\0\0\0\0\0\0\0\0\0\0\t\0\u{1}3EN";
      area = 16384;
      time = 1000;
      start = 0;
      calls =
          with_area (Open 0 2000) 16384
          ∷ with_outbox (Piece 0 (bytes "*IDN?\n") 3000) 16384 32768
          ∷ with_outbox (Piece 0 (bytes "*IDN? x\n") 4000) 16384 32768
          ∷ with_outbox (Piece 0 (bytes "check t1:p 4\n") 5000) 16384 32768
          ∷ with_outbox (Piece 0 (bytes "describe\n") 6000) 16384 32768
          ∷ with_outbox (Piece 0 (bytes "checks t1:p 4\n") 7000) 16384 32768
          ∷ with_outbox (Piece 0 (bytes "Check t1:p 4\n") 8000) 16384 32768
          ∷ [];
      due =
          record { number = 0; used = 0; written = bytes ""; steps = 0 }
          ∷ record { number = 0; used = 6; written = bytes "RP\0\0\u{1c}ISSE,SECoP,V2021-02-17,v2.0\n"; steps = 0 }
          ∷ record { number = 0; used = 8; written = bytes "RP\0\0\u{1c}ISSE,SECoP,V2021-02-17,v2.0\n"; steps = 0 }
          ∷ record { number = 0; used = 13; written = bytes "RP\0\0\u{1d}checked t1:p [4,{\"t\":5.000}]\n"; steps = 1 }
          ∷ record { number = 0; used = 9; written = bytes "RP\0\0Ðdescribing . {\"modules\":{\"t1\":{\"interface_classes\":[],\"description\":\"\",\"accessibles\":{\"p\":{\"description\":\"\",\"readonly\":false,\"datainfo\":{\"type\":\"int\",\"min\":0,\"max\":9}}}}},\"equipment_id\":\"s\",\"description\":\"\"}\n"; steps = 0 }
          ∷ record { number = 0; used = 14; written = bytes "RP\0\0Ferror_checks t1:p [\"ProtocolError\",\"malformed or unknown request\",{}]\n"; steps = 0 }
          ∷ record { number = 0; used = 13; written = bytes "RP\0\0Eerror_Check t1:p [\"ProtocolError\",\"malformed or unknown request\",{}]\n"; steps = 0 }
          ∷ [];
    }

unfoldable pub history_61 : History
history_61 =
    record {
      table = bytes "ND\u{1}s\0ED\u{1b}ISSE,SECoP,V2021-02-17,v2.0MO\u{2}t1\0PA\u{5}value\0\u{1}\u{2}\0\0\0\0\0\0\0\0\0\0\0\0\0\0\0\t\0\u{1}3PA\u{1}p\0\0\u{2}\0\0\0\0\0\0\0\0\0\0\0\0\0\0\0\t\0\u{1}3CM\u{4}stop\0\0EN";
      area = 16384;
      time = 1000;
      start = 0;
      calls =
          with_area (Open 0 2000) 16384
          ∷ with_outbox (Piece 0 (bytes "check\n") 3000) 16384 32768
          ∷ with_outbox (Piece 0 (bytes "check t1 4\n") 4000) 16384 32768
          ∷ with_outbox (Piece 0 (bytes "check t1:9 4\n") 5000) 16384 32768
          ∷ with_outbox (Piece 0 (bytes "check tx:p 4\n") 6000) 16384 32768
          ∷ with_outbox (Piece 0 (bytes "check t1:stop\n") 7000) 16384 32768
          ∷ with_outbox (Piece 0 (bytes "check t1:value {\n") 8000) 16384 32768
          ∷ with_outbox (Piece 0 (bytes "check t1:p {\n") 9000) 16384 32768
          ∷ with_outbox (Piece 0 (bytes "check t1:p\n") 10000) 16384 32768
          ∷ with_outbox (Piece 0 (bytes "check t1:p:x 10\n") 11000) 16384 32768
          ∷ [];
      due =
          record { number = 0; used = 0; written = bytes ""; steps = 0 }
          ∷ record { number = 0; used = 6; written = bytes "RP\0\0Aerror_check  [\"ProtocolError\",\"malformed or unknown request\",{}]\n"; steps = 0 }
          ∷ record { number = 0; used = 11; written = bytes "RP\0\0Cerror_check t1 [\"ProtocolError\",\"malformed or unknown request\",{}]\n"; steps = 0 }
          ∷ record { number = 0; used = 13; written = bytes "RP\0\0Eerror_check t1:9 [\"ProtocolError\",\"malformed or unknown request\",{}]\n"; steps = 0 }
          ∷ record { number = 0; used = 13; written = bytes "RP\0\06error_check tx:p [\"NoSuchModule\",\"no such module\",{}]\n"; steps = 0 }
          ∷ record { number = 0; used = 14; written = bytes "RP\0\0?error_check t1:stop [\"NoSuchParameter\",\"no such parameter\",{}]\n"; steps = 3 }
          ∷ record { number = 0; used = 17; written = bytes "RP\0\0>error_check t1:value [\"ReadOnly\",\"parameter is read only\",{}]\n"; steps = 1 }
          ∷ record { number = 0; used = 13; written = bytes "RP\0\03error_check t1:p [\"BadJSON\",\"data is not JSON\",{}]\n"; steps = 2 }
          ∷ record { number = 0; used = 11; written = bytes "RP\0\0=error_check t1:p [\"WrongType\",\"value has the wrong type\",{}]\n"; steps = 2 }
          ∷ record { number = 0; used = 16; written = bytes "RP\0\0=error_check t1:p:x [\"RangeError\",\"value is out of range\",{}]\n"; steps = 2 }
          ∷ [];
    }

unfoldable pub history_62 : History
history_62 =
    record {
      table = bytes "ND\u{1}s\0ED\u{1b}ISSE,SECoP,V2021-02-17,v2.0MO\u{2}t1\0PA\u{4}pair\0\0\u{7}\u{2}\u{4}\u{2}\u{3}off\0\0\0\0\u{2}on\0\0\0\u{1}\u{2}\0\0\0\0\0\0\0\0\0\0\0\0\0\0\0\t\0\u{5}[0,1]EN";
      area = 16384;
      time = 1000;
      start = 0;
      calls =
          with_area (Open 0 2000) 16384
          ∷ with_outbox (Piece 0 (bytes "check t1:pair:x  [ \"on\" , 7 ] \n") 3000) 16384 32768
          ∷ with_outbox (Piece 0 (bytes "check t1:pair [\"On\",7]\n") 4000) 16384 32768
          ∷ with_outbox (Piece 0 (bytes "read t1:pair\n") 5000) 16384 32768
          ∷ [];
      due =
          record { number = 0; used = 0; written = bytes ""; steps = 0 }
          ∷ record { number = 0; used = 31; written = bytes "RP\0\0$checked t1:pair [[1,7],{\"t\":3.000}]\n"; steps = 1 }
          ∷ record { number = 0; used = 23; written = bytes "RP\0\0>error_check t1:pair [\"RangeError\",\"value is out of range\",{}]\n"; steps = 1 }
          ∷ record { number = 0; used = 13; written = bytes "RP\0\0\"reply t1:pair [[0,1],{\"t\":1.000}]\n"; steps = 1 }
          ∷ [];
    }

unfoldable pub history_63 : History
history_63 =
    record {
      table = bytes "ND\u{1}s\0ED\u{1b}ISSE,SECoP,V2021-02-17,v2.0MO\u{2}t1\0PA\u{1}p\0\0\u{2}\0\0\0\0\0\0\0\0\0\0\0\0\0\0\0\t\0\u{1}3EN";
      area = 16384;
      time = 1000;
      start = 0;
      calls =
          with_area (Open 0 2000) 16384
          ∷ with_area (Open 1 3000) 16384
          ∷ with_outbox (Piece 1 (bytes "activate\n") 4000) 16384 32768
          ∷ with_outbox (Piece 0 (bytes "check t1:p 4\n") 5000) 16384 32768
          ∷ with_outbox (Piece 0 (bytes "read t1:p\n") 6000) 16384 32768
          ∷ with_outbox (Unreadable 0 2 7000) 16384 32768
          ∷ with_outbox (Piece 1 (bytes "check t1:p 5\n") 8000) 16384 32768
          ∷ with_outbox (Piece 0 (bytes "read t1:p\n") 9000) 16384 32768
          ∷ [];
      due =
          record { number = 0; used = 0; written = bytes ""; steps = 0 }
          ∷ record { number = 0; used = 0; written = bytes ""; steps = 0 }
          ∷ record { number = 0; used = 9; written = bytes "UP\u{1}\0\u{1c}update t1:p [3,{\"t\":1.000}]\nRP\u{1}\0\u{7}active\n"; steps = 0 }
          ∷ record { number = 0; used = 13; written = bytes "RP\0\0\u{1d}checked t1:p [4,{\"t\":5.000}]\n"; steps = 1 }
          ∷ record { number = 0; used = 10; written = bytes "RP\0\0\u{1b}reply t1:p [3,{\"t\":1.000}]\n"; steps = 1 }
          ∷ record { number = 0; used = 0; written = bytes "UP\u{1}\0Lerror_update t1:p [\"CommunicationFailed\",\"CommunicationFailed\",{\"t\":7.000}]\n"; steps = 0 }
          ∷ record { number = 0; used = 13; written = bytes "RP\u{1}\0\u{1d}checked t1:p [5,{\"t\":8.000}]\n"; steps = 1 }
          ∷ record { number = 0; used = 10; written = bytes "RP\0\0Jerror_read t1:p [\"CommunicationFailed\",\"CommunicationFailed\",{\"t\":7.000}]\n"; steps = 1 }
          ∷ [];
    }

unfoldable pub history_64 : History
history_64 =
    record {
      table = bytes "ND\u{1}s\0MO\u{2}t1\0PA\u{1}p\0\0\u{2}\0\0\0\0\0\0\0\0\0\0\0\0\0\0\0\t\0\u{1}3EN";
      area = 16384;
      time = 1000;
      start = 0;
      calls =
          with_area (Open 0 2000) 16384
          ∷ with_outbox (Piece 0 (bytes "*IDN?\n") 3000) 16384 32768
          ∷ with_outbox (Piece 0 (bytes "check t1:p 4\n") 4000) 16384 32768
          ∷ with_outbox (Piece 0 (bytes "check tx:p {\n") 5000) 16384 32768
          ∷ with_outbox (Piece 0 (bytes "check\n") 6000) 16384 32768
          ∷ [];
      due =
          record { number = 0; used = 0; written = bytes ""; steps = 0 }
          ∷ record { number = 0; used = 6; written = bytes "RP\0\0%ISSE&SINE2020,SECoP,V2019-09-16,v1.0\n"; steps = 0 }
          ∷ record { number = 0; used = 13; written = bytes "RP\0\0Eerror_check t1:p [\"ProtocolError\",\"malformed or unknown request\",{}]\n"; steps = 0 }
          ∷ record { number = 0; used = 13; written = bytes "RP\0\0Eerror_check tx:p [\"ProtocolError\",\"malformed or unknown request\",{}]\n"; steps = 0 }
          ∷ record { number = 0; used = 6; written = bytes "RP\0\0Aerror_check  [\"ProtocolError\",\"malformed or unknown request\",{}]\n"; steps = 0 }
          ∷ [];
    }

unfoldable pub history_65 : History
history_65 =
    record {
      table = bytes "ND\u{1}s\0ED\u{1b}ISSE,SECoP,V2021-02-17,v2.0MO\u{1}m\0PA\u{3}a19\0\0\u{2}\0\0\0\0\0\0\0\0\0\0\0\0\0\0\0\t\0\u{1}0CM\u{4}a237\0\0PA\u{3}a76\0\0\u{2}\0\0\0\0\0\0\0\0\0\0\0\0\0\0\0\t\0\u{1}3EN";
      area = 16384;
      time = 1000;
      start = 0;
      calls =
          beside (bytes "\u{1}\u{2}ÿÿÿÿÿÿÿÿÿÿÿÿÿÿÿÿÿÿÿÿÿÿÿÿÿÿÿÿÿÿÿÿÿÿÿÿÿÿÿÿÿÿÿÿÿÿÿÿÿÿÿÿÿÿÿÿÿÿÿÿÿÿÿÿÿÿÿÿÿÿÿÿÿÿÿÿÿÿÿÿÿÿÿÿÿÿÿÿÿÿÿÿÿÿÿÿÿÿÿÿÿÿÿÿÿÿÿÿÿÿÿÿÿÿÿÿÿÿÿÿÿÿÿÿÿ\0") (with_area (Open 0 2000) 16384)
          ∷ beside (bytes "\u{1}\u{2}ÿÿÿÿÿÿÿÿÿÿÿÿÿÿÿÿÿÿÿÿÿÿÿÿÿÿÿÿÿÿÿÿÿÿÿÿÿÿÿÿÿÿÿÿÿÿÿÿÿÿÿÿÿÿÿÿÿÿÿÿÿÿÿÿÿÿÿÿÿÿÿÿÿÿÿÿÿÿÿÿÿÿÿÿÿÿÿÿÿÿÿÿÿÿÿÿÿÿÿÿÿÿÿÿÿÿÿÿÿÿÿÿÿÿÿÿÿÿÿÿÿÿÿÿÿ\0") (with_outbox (Piece 0 (bytes "read m:a76\n") 3000) 16384 32768)
          ∷ beside (bytes "\u{1}\u{2}ÿÿÿÿÿÿÿÿÿÿÿÿÿÿÿÿÿÿÿÿÿÿÿÿÿÿÿÿÿÿÿÿÿÿÿÿÿÿÿÿÿÿÿÿÿÿÿÿÿÿÿÿÿÿÿÿÿÿÿÿÿÿÿÿÿÿÿÿÿÿÿÿÿÿÿÿÿÿÿÿÿÿÿÿÿÿÿÿÿÿÿÿÿÿÿÿÿÿÿÿÿÿÿÿÿÿÿÿÿÿÿÿÿÿÿÿÿÿÿÿÿÿÿÿÿ\0") (with_outbox (Piece 0 (bytes "do m:a237\n") 4000) 16384 32768)
          ∷ beside (bytes "\u{1}\u{2}ÿÿÿÿÿÿÿÿÿÿÿÿÿÿÿÿÿÿÿÿÿÿÿÿÿÿÿÿÿÿÿÿÿÿÿÿÿÿÿÿÿÿÿÿÿÿÿÿÿÿÿÿÿÿÿÿÿÿÿÿÿÿÿÿÿÿÿÿÿÿÿÿÿÿÿÿÿÿÿÿÿÿÿÿÿÿÿÿÿÿÿÿÿÿÿÿÿÿÿÿÿÿÿÿÿÿÿÿÿÿÿÿÿÿÿÿÿÿÿÿÿÿÿÿÿ\0") (with_outbox (Piece 0 (bytes "check m:a19 5\n") 5000) 16384 32768)
          ∷ beside (bytes "\u{1}\u{2}ÿÿÿÿÿÿÿÿÿÿÿÿÿÿÿÿÿÿÿÿÿÿÿÿÿÿÿÿÿÿÿÿÿÿÿÿÿÿÿÿÿÿÿÿÿÿÿÿÿÿÿÿÿÿÿÿÿÿÿÿÿÿÿÿÿÿÿÿÿÿÿÿÿÿÿÿÿÿÿÿÿÿÿÿÿÿÿÿÿÿÿÿÿÿÿÿÿÿÿÿÿÿÿÿÿÿÿÿÿÿÿÿÿÿÿÿÿÿÿÿÿÿÿÿÿ\0") (with_outbox (Piece 0 (bytes "read m:a282\n") 6000) 16384 32768)
          ∷ beside (bytes "\u{1}\u{2}ÿÿÿÿÿÿÿÿÿÿÿÿÿÿÿÿÿÿÿÿÿÿÿÿÿÿÿÿÿÿÿÿÿÿÿÿÿÿÿÿÿÿÿÿÿÿÿÿÿÿÿÿÿÿÿÿÿÿÿÿÿÿÿÿÿÿÿÿÿÿÿÿÿÿÿÿÿÿÿÿÿÿÿÿÿÿÿÿÿÿÿÿÿÿÿÿÿÿÿÿÿÿÿÿÿÿÿÿÿÿÿÿÿÿÿÿÿÿÿÿÿÿÿÿÿ\0") (with_outbox (Piece 0 (bytes "read m:a237\n") 7000) 16384 32768)
          ∷ beside (bytes "\u{1}\u{2}ÿÿÿÿÿÿÿÿÿÿÿÿÿÿÿÿÿÿÿÿÿÿÿÿÿÿÿÿÿÿÿÿÿÿÿÿÿÿÿÿÿÿÿÿÿÿÿÿÿÿÿÿÿÿÿÿÿÿÿÿÿÿÿÿÿÿÿÿÿÿÿÿÿÿÿÿÿÿÿÿÿÿÿÿÿÿÿÿÿÿÿÿÿÿÿÿÿÿÿÿÿÿÿÿÿÿÿÿÿÿÿÿÿÿÿÿÿÿÿÿÿÿÿÿÿ\0") (with_outbox (Piece 0 (bytes "read n:a19\n") 8000) 16384 32768)
          ∷ beside (bytes "\u{1}\u{2}ÿÿÿÿÿÿÿÿÿÿÿÿÿÿÿÿÿÿÿÿÿÿÿÿÿÿÿÿÿÿÿÿÿÿÿÿÿÿÿÿÿÿÿÿÿÿÿÿÿÿÿÿÿÿÿÿÿÿÿÿÿÿÿÿÿÿÿÿÿÿÿÿÿÿÿÿÿÿÿÿÿÿÿÿÿÿÿÿÿÿÿÿÿÿÿÿÿÿÿÿÿÿÿÿÿÿÿÿÿÿÿÿÿÿÿÿÿÿÿÿÿÿÿÿÿ\0\0") (with_outbox (Piece 0 (bytes "change m:a76:x 4\n") 9000) 16384 32768)
          ∷ beside (bytes "\u{1}\u{2}ÿÿÿÿÿÿÿÿÿÿÿÿÿÿÿÿÿÿÿÿÿÿÿÿÿÿÿÿÿÿÿÿÿÿÿÿÿÿÿÿÿÿÿÿÿÿÿÿÿÿÿÿÿÿÿÿÿÿÿÿÿÿÿÿÿÿÿÿÿÿÿÿÿÿÿÿÿÿÿÿÿÿÿÿÿÿÿÿÿÿÿÿÿÿÿÿÿÿÿÿÿÿÿÿÿÿÿÿÿÿÿÿÿÿÿÿÿÿÿÿÿÿÿÿÿ\0\0") (with_outbox (Piece 0 (bytes "activate m:a19\n") 10000) 16384 32768)
          ∷ with_outbox (Piece 0 (bytes "read m:a76\n") 11000) 16384 32768
          ∷ [];
      due =
          record { number = 0; used = 0; written = bytes ""; steps = 0 }
          ∷ record { number = 0; used = 11; written = bytes "RP\0\0\u{1c}reply m:a76 [3,{\"t\":1.000}]\n"; steps = 2 }
          ∷ record { number = 0; used = 10; written = bytes "DC\0\0\u{1}\0RP\0\0\u{1f}done m:a237 [null,{\"t\":4.000}]\n"; steps = 2 }
          ∷ record { number = 0; used = 14; written = bytes "RP\0\0\u{1e}checked m:a19 [5,{\"t\":5.000}]\n"; steps = 1 }
          ∷ record { number = 0; used = 12; written = bytes "RP\0\0=error_read m:a282 [\"NoSuchParameter\",\"no such parameter\",{}]\n"; steps = 7 }
          ∷ record { number = 0; used = 12; written = bytes "RP\0\0=error_read m:a237 [\"NoSuchParameter\",\"no such parameter\",{}]\n"; steps = 2 }
          ∷ record { number = 0; used = 11; written = bytes "RP\0\06error_read n:a19 [\"NoSuchModule\",\"no such module\",{}]\n"; steps = 0 }
          ∷ record { number = 0; used = 17; written = bytes "DR\0\0\u{2}\u{1}4RP\0\0\u{1e}changed m:a76 [4,{\"t\":9.000}]\n"; steps = 2 }
          ∷ record { number = 0; used = 15; written = bytes "UP\0\0\u{1d}update m:a19 [0,{\"t\":1.000}]\nUP\0\0\u{1d}update m:a76 [4,{\"t\":9.000}]\nRP\0\0\tactive m\n"; steps = 0 }
          ∷ record { number = 0; used = 11; written = bytes "RP\0\0\u{1c}reply m:a76 [4,{\"t\":9.000}]\n"; steps = 3 }
          ∷ [];
    }

unfoldable pub history_66 : History
history_66 =
    record {
      table = bytes "ND\u{1}s\0MO\u{1}m\0PA\u{3}a19\0\0\u{2}\0\0\0\0\0\0\0\0\0\0\0\0\0\0\0\t\0\u{1}0CM\u{4}a237\0\0PA\u{3}a76\0\0\u{2}\0\0\0\0\0\0\0\0\0\0\0\0\0\0\0\t\0\u{1}3EN";
      area = 16384;
      time = 1000;
      start = 0;
      calls =
          with_area (Open 0 2000) 16384
          ∷ beside (bytes "ÿÿÿÿÿÿÿÿÿÿÿÿÿÿÿÿÿÿÿÿÿÿÿÿÿÿÿÿÿÿÿÿÿÿÿÿÿÿÿÿÿÿÿÿÿÿÿÿÿÿÿÿÿÿÿÿÿÿÿÿÿÿÿÿÿÿÿÿÿÿÿÿÿÿÿÿÿÿÿÿÿÿÿÿÿÿÿÿÿÿÿÿÿÿÿÿÿÿÿÿÿÿÿÿÿÿÿÿÿÿÿÿÿÿÿÿÿÿÿÿÿÿÿÿÿÿÿÿ") (with_outbox (Piece 0 (bytes "do m:a237\n") 3000) 16384 32768)
          ∷ beside (bytes "\0\0\0\0\0\0\0\0\0\0\0\0\0\0\0\0\0\0\0\0\0\0\0\0\0\0\0\0\0\0\0\0\0\0\0\0\0\0\0\0\0\0\0\0\0\0\0\0\0\0\0\0\0\0\0\0\0\0\0\0\0\0\0\0\0\0\0\0\0\0\0\0\0\0\0\0\0\0\0\0\0\0\0\0\0\0\0\0\0\0\0\0\0\0\0\0\0\0\0\0\0\0\0\0\0\0\0\0\0\0\0\0\0\0\0\0\0\0\0\0\0\0\0\0\0\0\0\0") (with_outbox (Piece 0 (bytes "read m:a76\n") 4000) 16384 32768)
          ∷ beside (bytes "\0\u{2}ÿÿÿÿÿÿÿÿÿÿÿÿÿÿÿÿÿÿÿÿÿÿÿÿÿÿÿÿÿÿÿÿÿÿÿÿÿÿÿÿÿÿÿÿÿÿÿÿÿÿÿÿÿÿÿÿÿÿÿÿÿÿÿÿÿÿÿÿÿÿÿÿÿÿÿÿÿÿÿÿÿÿÿÿÿÿÿÿÿÿÿÿÿÿÿÿÿÿÿÿÿÿÿÿÿÿÿÿÿÿÿÿÿÿÿÿÿÿÿÿÿÿÿÿÿ\u{1}") (with_outbox (Piece 0 (bytes "read m:a19\n") 5000) 16384 32768)
          ∷ beside (bytes "\0\u{2}ÿÿÿÿÿÿÿÿÿÿÿÿÿÿÿÿÿÿÿÿÿÿÿÿÿÿÿÿÿÿÿÿÿÿÿÿÿÿÿÿÿÿÿÿÿÿÿÿÿÿÿÿÿÿÿÿÿÿÿÿÿÿÿÿÿÿÿÿÿÿÿÿÿÿÿÿÿÿÿÿÿÿÿÿÿÿÿÿÿÿÿÿÿÿÿÿÿÿÿÿÿÿÿÿÿÿÿÿÿÿÿÿÿÿÿÿÿÿÿÿÿÿÿÿÿ\u{1}") (with_outbox (Piece 0 (bytes "read m:a76\n") 6000) 16384 32768)
          ∷ beside (bytes "\0\u{2}ÿÿÿÿÿÿÿÿÿÿÿÿÿÿÿÿÿÿÿÿÿÿÿÿÿÿÿÿÿÿÿÿÿÿÿÿÿÿÿÿÿÿÿÿÿÿÿÿÿÿÿÿÿÿÿÿÿÿÿÿÿÿÿÿÿÿÿÿÿÿÿÿÿÿÿÿÿÿÿÿÿÿÿÿÿÿÿÿÿÿÿÿÿÿÿÿÿÿÿÿÿÿÿÿÿÿÿÿÿÿÿÿÿÿÿÿÿÿÿÿÿÿÿÿÿ\u{1}") (with_outbox (Piece 0 (bytes "do m:a237\n") 7000) 16384 32768)
          ∷ beside (bytes "\u{2}ÿÿÿÿÿÿÿÿÿÿÿÿÿÿÿÿÿÿÿÿÿÿÿÿÿÿÿÿÿÿÿÿÿÿÿÿÿÿÿÿÿÿÿÿÿÿÿÿÿÿÿÿÿÿÿÿÿÿÿÿÿÿÿÿÿÿÿÿÿÿÿÿÿÿÿÿÿÿÿÿÿÿÿÿÿÿÿÿÿÿÿÿÿÿÿÿÿÿÿÿÿÿÿÿÿÿÿÿÿÿÿÿÿÿÿÿÿÿÿÿÿÿÿÿÿÿÈ") (with_outbox (Piece 0 (bytes "do m:a237\n") 8000) 16384 32768)
          ∷ beside (bytes "\u{2}ÿÿÿÿÿÿÿÿÿÿÿÿÿÿÿÿÿÿÿÿÿÿÿÿÿÿÿÿÿÿÿÿÿÿÿÿÿÿÿÿÿÿÿÿÿÿÿÿÿÿÿÿÿÿÿÿÿÿÿÿÿÿÿÿÿÿÿÿÿÿÿÿÿÿÿÿÿÿÿÿÿÿÿÿÿÿÿÿÿÿÿÿÿÿÿÿÿÿÿÿÿÿÿÿÿÿÿÿÿÿÿÿÿÿÿÿÿÿÿÿÿÿÿÿÿÿÈ") (with_outbox (Piece 0 (bytes "check m:a19 1\n") 9000) 16384 32768)
          ∷ [];
      due =
          record { number = 0; used = 0; written = bytes ""; steps = 0 }
          ∷ record { number = 0; used = 10; written = bytes "DC\0\0\u{1}\0RP\0\0\u{1f}done m:a237 [null,{\"t\":3.000}]\n"; steps = 3 }
          ∷ record { number = 0; used = 11; written = bytes "RP\0\0\u{1c}reply m:a76 [3,{\"t\":1.000}]\n"; steps = 131 }
          ∷ record { number = 0; used = 11; written = bytes "RP\0\0\u{1c}reply m:a19 [0,{\"t\":1.000}]\n"; steps = 2 }
          ∷ record { number = 0; used = 11; written = bytes "RP\0\0\u{1c}reply m:a76 [3,{\"t\":1.000}]\n"; steps = 2 }
          ∷ record { number = 0; used = 10; written = bytes "DC\0\0\u{1}\0RP\0\0\u{1f}done m:a237 [null,{\"t\":7.000}]\n"; steps = 1 }
          ∷ record { number = 0; used = 10; written = bytes "DC\0\0\u{1}\0RP\0\0\u{1f}done m:a237 [null,{\"t\":8.000}]\n"; steps = 5 }
          ∷ record { number = 0; used = 14; written = bytes "RP\0\0Ferror_check m:a19 [\"ProtocolError\",\"malformed or unknown request\",{}]\n"; steps = 0 }
          ∷ [];
    }

unfoldable pub history_67 : History
history_67 =
    record {
      table = bytes "ND\u{1}s\0MO\u{2}t1\0PA\u{1}p\0\0\u{2}\0\0\0\0\0\0\0\0\0\0\0\0\0\0\0\t\0\u{1}3EN";
      area = 16384;
      time = 1000;
      start = 0;
      calls =
          beside (bytes "ÿÿÿÿÿÿÿÿÿÿÿÿÿÿÿÿÿÿÿÿÿÿÿÿÿÿÿÿÿÿÿÿÿÿÿÿÿÿÿÿÿÿÿÿÿÿÿÿÿÿÿÿÿÿÿÿÿÿÿÿÿÿÿÿÿÿÿÿÿÿÿÿÿÿÿÿÿÿÿÿÿÿÿÿÿÿÿÿÿÿÿÿÿÿÿÿÿÿÿÿÿÿÿÿÿÿÿÿÿÿÿÿÿÿÿÿÿÿÿÿÿÿÿÿÿÿÿ") (with_area (Open 0 2000) 16384)
          ∷ beside (bytes "ÿÿÿÿÿÿÿÿÿÿÿÿÿÿÿÿÿÿÿÿÿÿÿÿÿÿÿÿÿÿÿÿÿÿÿÿÿÿÿÿÿÿÿÿÿÿÿÿÿÿÿÿÿÿÿÿÿÿÿÿÿÿÿÿÿÿÿÿÿÿÿÿÿÿÿÿÿÿÿÿÿÿÿÿÿÿÿÿÿÿÿÿÿÿÿÿÿÿÿÿÿÿÿÿÿÿÿÿÿÿÿÿÿÿÿÿÿÿÿÿÿÿÿÿÿÿÿ") (with_area (Open 0 3000) 16383)
          ∷ beside (bytes "ÿÿÿÿÿÿÿÿÿÿÿÿÿÿÿÿÿÿÿÿÿÿÿÿÿÿÿÿÿÿÿÿÿÿÿÿÿÿÿÿÿÿÿÿÿÿÿÿÿÿÿÿÿÿÿÿÿÿÿÿÿÿÿÿÿÿÿÿÿÿÿÿÿÿÿÿÿÿÿÿÿÿÿÿÿÿÿÿÿÿÿÿÿÿÿÿÿÿÿÿÿÿÿÿÿÿÿÿÿÿÿÿÿÿÿÿÿÿÿÿÿÿÿÿÿÿÿ") (with_area (Open 8 10000000000000) 16384)
          ∷ beside (bytes "ÿÿÿÿÿÿÿÿÿÿÿÿÿÿÿÿÿÿÿÿÿÿÿÿÿÿÿÿÿÿÿÿÿÿÿÿÿÿÿÿÿÿÿÿÿÿÿÿÿÿÿÿÿÿÿÿÿÿÿÿÿÿÿÿÿÿÿÿÿÿÿÿÿÿÿÿÿÿÿÿÿÿÿÿÿÿÿÿÿÿÿÿÿÿÿÿÿÿÿÿÿÿÿÿÿÿÿÿÿÿÿÿÿÿÿÿÿÿÿÿÿÿÿÿÿÿÿÿ") (with_area (Open 0 5000) 16384)
          ∷ beside (bytes "\0") (with_outbox (Piece 0 (bytes "change t1:p 4\n") 6000) 16384 32768)
          ∷ beside (bytes "\0") (with_outbox (Piece 0 (bytes "change t1:p 4\n") 7000) 16384 32767)
          ∷ beside (bytes "\0") (with_outbox (Reading 0 (bytes "4") 8000) 16384 32768)
          ∷ beside (bytes "\0") (with_outbox (Unreadable 0 5 9000) 16384 32768)
          ∷ beside (bytes "\0") (with_area (Close 0 10000) 16384)
          ∷ with_outbox (Piece 0 (bytes "read t1:p\n") 11000) 16384 32768
          ∷ [];
      due =
          record { number = 18; used = 0; written = bytes ""; steps = 0 }
          ∷ record { number = 8; used = 0; written = bytes ""; steps = 0 }
          ∷ record { number = 18; used = 0; written = bytes ""; steps = 0 }
          ∷ record { number = 0; used = 0; written = bytes ""; steps = 0 }
          ∷ record { number = 18; used = 0; written = bytes ""; steps = 0 }
          ∷ record { number = 7; used = 0; written = bytes ""; steps = 0 }
          ∷ record { number = 18; used = 0; written = bytes ""; steps = 0 }
          ∷ record { number = 18; used = 0; written = bytes ""; steps = 0 }
          ∷ record { number = 18; used = 0; written = bytes ""; steps = 0 }
          ∷ record { number = 0; used = 10; written = bytes "RP\0\0\u{1b}reply t1:p [3,{\"t\":1.000}]\n"; steps = 1 }
          ∷ [];
    }

unfoldable pub history_68 : History
history_68 =
    record {
      table = bytes "ND\u{1}s\0MO\u{2}t1\0ENEN";
      area = 16384;
      time = 1000;
      start = 1;
      calls =
          with_area (Open 0 2000) 16384
          ∷ [];
      due =
          record { number = 1; used = 0; written = bytes ""; steps = 0 }
          ∷ [];
    }

unfoldable pub history_69 : History
history_69 =
    record {
      table = bytes "ND\u{1}s\0EN";
      area = 16384;
      time = 1000;
      start = 2;
      calls =
          with_area (Open 0 2000) 16384
          ∷ [];
      due =
          record { number = 2; used = 0; written = bytes ""; steps = 0 }
          ∷ [];
    }

unfoldable pub history_70 : History
history_70 =
    record {
      table = bytes "ND\u{1}s\0MO\u{2}9x\0EN";
      area = 16384;
      time = 1000;
      start = 3;
      calls =
          with_area (Open 0 2000) 16384
          ∷ [];
      due =
          record { number = 3; used = 0; written = bytes ""; steps = 0 }
          ∷ [];
    }

unfoldable pub history_71 : History
history_71 =
    record {
      table = bytes "ND\u{1}s\0MO\u{2}t1\0ED\u{b}ISSE,SECoP,EN";
      area = 16384;
      time = 1000;
      start = 1;
      calls =
          with_area (Open 0 2000) 16384
          ∷ [];
      due =
          record { number = 1; used = 0; written = bytes ""; steps = 0 }
          ∷ [];
    }

unfoldable pub history_72 : History
history_72 =
    record {
      table = bytes "ND\u{1}s\0ED\u{b}ISSE,SECoP,ED\u{b}ISSE,SECoP,MO\u{2}t1\0EN";
      area = 16384;
      time = 1000;
      start = 1;
      calls =
          with_area (Open 0 2000) 16384
          ∷ [];
      due =
          record { number = 1; used = 0; written = bytes ""; steps = 0 }
          ∷ [];
    }

unfoldable pub history_73 : History
history_73 =
    record {
      table = bytes "ND\u{1}s\0ED$ISSE&SINE2020,SECoP,V2019-09-16,v1.0MO\u{2}t1\0EN";
      area = 16384;
      time = 1000;
      start = 3;
      calls =
          with_area (Open 0 2000) 16384
          ∷ [];
      due =
          record { number = 3; used = 0; written = bytes ""; steps = 0 }
          ∷ [];
    }

unfoldable pub history_74 : History
history_74 =
    record {
      table = bytes "ND\u{1}s\0ED\u{c}ISSE,SECoP,\"MO\u{2}t1\0EN";
      area = 16384;
      time = 1000;
      start = 3;
      calls =
          with_area (Open 0 2000) 16384
          ∷ [];
      due =
          record { number = 3; used = 0; written = bytes ""; steps = 0 }
          ∷ [];
    }

unfoldable pub history_75 : History
history_75 =
    record {
      table = bytes "ND\u{1}s\0MO\u{2}t1\0CM\u{1}c\0\u{1}\u{2}\0\0\0\0\0\0\0\u{1}\0\0\0\0\0\0\0\0EN";
      area = 16384;
      time = 1000;
      start = 4;
      calls =
          with_area (Open 0 2000) 16384
          ∷ [];
      due =
          record { number = 4; used = 0; written = bytes ""; steps = 0 }
          ∷ [];
    }

unfoldable pub history_76 : History
history_76 =
    record {
      table = bytes "ND\u{1}s\0MO\u{2}t1\0CM\u{1}c\0\u{1}\t\0\0\0\0\0\0\0\0\0\0\0\0\0\0\0\0\0\0\0\0\0\0\0\0\u{1}EN";
      area = 16384;
      time = 1000;
      start = 4;
      calls =
          with_area (Open 0 2000) 16384
          ∷ [];
      due =
          record { number = 4; used = 0; written = bytes ""; steps = 0 }
          ∷ [];
    }

unfoldable pub history_77 : History
history_77 =
    record {
      table = bytes "ND\u{1}s\0MO\u{2}t1\0PA\u{1}p\0\0\u{2}\0\0\0\0\0\0\0\0\0\0\0\0\0\0\0\t\0\u{2}3 EN";
      area = 16384;
      time = 1000;
      start = 5;
      calls =
          with_area (Open 0 2000) 16384
          ∷ [];
      due =
          record { number = 5; used = 0; written = bytes ""; steps = 0 }
          ∷ [];
    }

unfoldable pub history_78 : History
history_78 =
    record {
      table = bytes "ND\u{1}s\0MO\u{2}9x\0CM\u{1}c\0\u{2}EN";
      area = 16384;
      time = 1000;
      start = 1;
      calls =
          with_area (Open 0 2000) 16384
          ∷ [];
      due =
          record { number = 1; used = 0; written = bytes ""; steps = 0 }
          ∷ [];
    }

unfoldable pub history_79 : History
history_79 =
    record {
      table = bytes "ND\u{1}s\u{1}\"EN";
      area = 16384;
      time = 1000;
      start = 2;
      calls =
          with_area (Open 0 2000) 16384
          ∷ [];
      due =
          record { number = 2; used = 0; written = bytes ""; steps = 0 }
          ∷ [];
    }

unfoldable pub history_80 : History
history_80 =
    record {
      table = bytes "ND\u{1}s\0MO\u{2}t1\0CM\u{1}c\0\u{1}\u{4}\u{2}\u{1}a\0\0\0\0\u{1}A\0\0\0\0EN";
      area = 16384;
      time = 1000;
      start = 3;
      calls =
          with_area (Open 0 2000) 16384
          ∷ [];
      due =
          record { number = 3; used = 0; written = bytes ""; steps = 0 }
          ∷ [];
    }

unfoldable pub history_81 : History
history_81 =
    record {
      table = bytes "ND\u{1}s\0MO\u{2}t1\0PA\u{1}p\0\0\u{5}\0\u{1}\0\0\0\u{1}2EN";
      area = 16384;
      time = 1000;
      start = 4;
      calls =
          with_area (Open 0 2000) 16384
          ∷ [];
      due =
          record { number = 4; used = 0; written = bytes ""; steps = 0 }
          ∷ [];
    }

unfoldable pub history_82 : History
history_82 =
    record {
      table = bytes "ND\u{1}s\0MO\u{2}t1\0PA\u{1}m\0\0\u{4}\u{2}\u{3}off\0\0\0\0\u{2}on\0\0\u{3}è\0\u{4}\"on\"EN";
      area = 16384;
      time = 1000;
      start = 5;
      calls =
          with_area (Open 0 2000) 16384
          ∷ [];
      due =
          record { number = 5; used = 0; written = bytes ""; steps = 0 }
          ∷ [];
    }

unfoldable pub history_83 : History
history_83 =
    record {
      table = bytes "ND\u{1}s\0MO\u{2}t1\0PA\u{1}p\0\0\u{2}\0\0\0\0\0\0\0\0\0\0\0\0\0\0\0\t\0\u{2}3 EN";
      area = 16383;
      time = 1000;
      start = 5;
      calls =
          with_area (Open 0 2000) 16384
          ∷ [];
      due =
          record { number = 5; used = 0; written = bytes ""; steps = 0 }
          ∷ [];
    }

unfoldable pub histories : List History
histories = history_1 ∷ history_2 ∷ history_3 ∷ history_4 ∷ history_5 ∷ history_6 ∷ history_7 ∷ history_8 ∷ history_9 ∷ history_10 ∷ history_11 ∷ history_12 ∷ history_13 ∷ history_14 ∷ history_15 ∷ history_16 ∷ history_17 ∷ history_18 ∷ history_19 ∷ history_20 ∷ history_21 ∷ history_22 ∷ history_23 ∷ history_24 ∷ history_25 ∷ history_26 ∷ history_27 ∷ history_28 ∷ history_29 ∷ history_30 ∷ history_31 ∷ history_32 ∷ history_33 ∷ history_34 ∷ history_35 ∷ history_36 ∷ history_37 ∷ history_38 ∷ history_39 ∷ history_40 ∷ history_41 ∷ history_42 ∷ history_43 ∷ history_44 ∷ history_45 ∷ history_46 ∷ history_47 ∷ history_48 ∷ history_49 ∷ history_50 ∷ history_51 ∷ history_52 ∷ history_53 ∷ history_54 ∷ history_55 ∷ history_56 ∷ history_57 ∷ history_58 ∷ history_59 ∷ history_60 ∷ history_61 ∷ history_62 ∷ history_63 ∷ history_64 ∷ history_65 ∷ history_66 ∷ history_67 ∷ history_68 ∷ history_69 ∷ history_70 ∷ history_71 ∷ history_72 ∷ history_73 ∷ history_74 ∷ history_75 ∷ history_76 ∷ history_77 ∷ history_78 ∷ history_79 ∷ history_80 ∷ history_81 ∷ history_82 ∷ history_83 ∷ []
