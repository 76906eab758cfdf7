pub mod EvidenceLines
