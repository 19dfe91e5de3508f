pub mod SameAnswers
