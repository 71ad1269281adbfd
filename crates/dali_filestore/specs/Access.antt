-- How files are opened.
--     options_of access    what a file is opened for
use Rattle.std.specs.Prelude.{true}
use Rattle.std.specs.Fs.{new_options, with_read, with_write, with_create}
use Rattle.std.specs.declared.fs.options.OpenOptions.{OpenOptions}
use Rattle.dali_filestore.specs.declared.access.Access.{Access}
use Rattle.dali_filestore.specs.declared.access.Access.TheVariants.{Writing, Reading}

abbrev pub options_of : Access → OpenOptions
options_of Writing = with_create (with_write (with_read new_options true) true) true
options_of Reading = with_read new_options true
