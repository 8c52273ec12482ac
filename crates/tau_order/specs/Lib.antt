pub mod SilentRows
