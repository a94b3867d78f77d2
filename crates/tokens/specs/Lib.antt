pub mod Class
pub mod Token
pub mod Lex
pub mod Spelling
pub mod Next
