-- share and unshare: what the contracts cite.
pub mod Share
