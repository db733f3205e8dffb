pub mod Findings
pub mod EvidenceText
