-- How a file of the system is opened.
use Rattle.std.specs.Fs.{new_options, with_read, with_write, with_create}
use Rattle.std.specs.Prelude.{true}
use Rattle.std.specs.declared.fs.options.OpenOptions.{OpenOptions}

-- to be read and written; it is made where it is not there, and not cut where it is
abbrev pub read_write_or_make : OpenOptions
read_write_or_make = with_create (with_write (with_read new_options true) true) true
