-- What the reader of systems tells of a line that could not be read.
use Rattle.text.specs.declared.error.ReadFault.{ReadFault}
use Rattle.text.specs.declared.error.ReadFault.TheVariants as reads
use Rattle.lts.specs.declared.error.AutError.{AutError}
use Rattle.lts.specs.declared.error.AutError.TheVariants as errors

abbrev pub aut_unread : ReadFault → AutError
aut_unread reads.Read = errors.Read
aut_unread reads.Memory = errors.Memory
