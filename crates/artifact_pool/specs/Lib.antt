pub mod ArtifactPath
pub mod DigestLine
pub mod DigestText
pub mod Noting
