-- Where the octets of a section are: for the contracts of the private functions.
pub mod Frame
