pub mod RightHints
