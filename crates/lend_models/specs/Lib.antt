pub mod Embedding
pub mod Agreement
pub mod RangeAgreement
pub mod Witness
