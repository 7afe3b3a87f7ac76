-- How far a file is that is made beside its name.
--
--   Stage    written, on the device, under its name, and that on the device too

-- written: only handed to the system; synced: on the device, beside its name; named: under its name; settled: that on the device too
pub data Stage : Type 0 where
  written : Stage
  synced : Stage
  named : Stage
  settled : Stage
