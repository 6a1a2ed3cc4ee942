pub mod Maps
pub mod SameMaps
pub mod Tables
pub mod SortedLists
pub mod SortedNumbers
