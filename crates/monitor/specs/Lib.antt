-- What callers of the monitor cite: the numbers of refusals and the operations' definitions, from the crates that have them; set-up.
pub use Rattle.monitor_contract.specs.Refusals
pub use Rattle.monitor_contract.specs.Answers
pub use Rattle.monitor_contract.specs.Found
pub use Rattle.monitor_create.specs.Create
pub use Rattle.monitor_invalidated.specs.Invalidated
pub use Rattle.monitor_destroy.specs.Destroy
pub use Rattle.monitor_give_take.specs.Give
pub use Rattle.monitor_give_take.specs.Take
pub use Rattle.monitor_share.specs.Share
pub use Rattle.monitor_unmap.specs.Unmap
pub use Rattle.monitor_map.specs.Map
pub mod SetUp
