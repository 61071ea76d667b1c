-- Document 01, sections 2 and 3: what a descriptor says.
pub mod Descriptor
-- The same numbers as the code's enums.
pub mod Numbers
