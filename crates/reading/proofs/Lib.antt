-- Laws that the proofs of this crate's functions share.
pub mod Runs
pub mod Walking
pub mod Rising
pub mod Listing
pub mod Starting
pub mod Last
