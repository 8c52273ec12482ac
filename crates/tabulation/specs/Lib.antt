pub mod Tabulated
