-- What a step of the two slices is: a call of a function of the monitor, answered as its contract says; a store of a guest or of the
-- host; the processor looks. Coarse: the same with all that can be found kept after each step, for the statements on two computers.
pub mod Calls
pub mod Slices
pub mod Terms
pub mod Coarse
