-- What the contracts of the functions say: the definitions of cbf_format at places of the file.
pub mod Data
pub mod Step
pub mod Walk
pub mod WholeFile
