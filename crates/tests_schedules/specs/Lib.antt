pub mod LongTables
