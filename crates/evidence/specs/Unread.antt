-- What the reader of evidence tells of a line that could not be read.
use Rattle.text.specs.declared.error.ReadFault.{ReadFault}
use Rattle.text.specs.declared.error.ReadFault.TheVariants as reads
use Rattle.evidence.specs.declared.error.EvidenceError.{EvidenceError}
use Rattle.evidence.specs.declared.error.EvidenceError.TheVariants as errors

abbrev pub evidence_unread : ReadFault → EvidenceError
evidence_unread reads.Read = errors.Read
evidence_unread reads.Memory = errors.Memory
