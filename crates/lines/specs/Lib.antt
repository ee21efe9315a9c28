pub mod Text
pub mod Results
