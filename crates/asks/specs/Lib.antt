pub mod Often
