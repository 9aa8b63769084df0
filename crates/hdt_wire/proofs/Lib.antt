mod CrcTables
mod VByteReading
mod VByteWriting
mod FirstByte
mod PropertyItems
mod Reading
mod CrcEightBytes
mod CountedWrites
