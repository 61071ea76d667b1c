-- What is proved of document 03's definitions, each theorem in a file of its own whose head says the sentence that it carries.
-- Crate isolation has the third demand on one page; crate model_examples shows that each theorem's hypotheses can be met.
-- What a guest reaches; two guests and one page; no access beyond what was shared; what nobody reaches.
-- The other way round: what is mapped is reached.
pub mod Mapped
-- A page changes hands; a frame becomes a table; a guest is created.
-- Contents: no operation changes a byte of a page that stays with its guest.
-- Demand 2: what each operation does to translations; taking out is complete; a refusal changes nothing; how many frames map needs.
pub mod Effect
pub mod TakingOut
pub mod Refusal
pub mod Frames
-- An owner always gets a page back.
pub mod Reclaim
-- The bytes: document 01's walk on RAM finds what the state says; what map and unmap do to it; what it finds is what reach speaks of;
-- RAM holds the words.
pub mod Bridge
pub mod RoundTrip
pub mod WalkReaches
pub mod Ram
-- Inside an operation, after each single store; and runs in which the processor looks after each.
-- What a guest reads depends on nothing that another does: two runs with the same operations, and two in which the others do other things.
pub mod TwoRuns
pub mod TwoRunsApart
