pub mod AnchorRows
pub mod ClassRows
pub mod LeftParts
pub mod RightBits
