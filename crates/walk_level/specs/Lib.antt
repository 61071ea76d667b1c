-- Document 01, section 4: how a stage goes on from a descriptor.
pub mod Stage
-- Not part of the document: what the code makes of one descriptor.
pub mod Step
