-- What the records of a list of twelve are before any is written.
use Rattle.splitting.specs.declared.Record.{Record}

-- a record that nothing was written to
abbrev pub blank_record : Record
blank_record = record { identifier = 0; begin = 0; length = 0 }
