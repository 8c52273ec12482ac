pub mod WrittenAlike
