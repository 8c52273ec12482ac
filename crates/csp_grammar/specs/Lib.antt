pub mod Declarations
pub mod Examples
pub mod Grammar
pub mod Precedence
pub mod Prelude
pub mod Reader
pub mod Tokens
