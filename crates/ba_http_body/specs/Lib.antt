pub mod Counted
pub mod Remaining
pub mod SizeLines
pub mod inside
