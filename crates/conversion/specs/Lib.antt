pub mod Conversion
pub mod ConversionPromise
