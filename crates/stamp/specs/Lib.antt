pub mod Stamp
pub mod StampLaws
pub mod Pairs
pub mod PairLaws
